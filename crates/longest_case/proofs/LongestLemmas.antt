-- If edges of the situation in which every link takes its longest duration have a closed walk of negative total, no strategy controls
-- the network.
use Rattle.std.proofs.Common.{◌≡◌, ℕ, nat_abs, List, Some, get_or, ap, ◌∙◌, arith}
use Rattle.std.specs.Prelude.{slice_get}
use Rattle.std.specs.Option.{option_map}
use Rattle.std.specs.List.{All, Contains}
use Rattle.std.proofs.lemmas.Int.{ints}
use Rattle.std.proofs.lemmas.List.Elements.{All-weaker, All-contains, recursion_from_All}
use Rattle.std.proofs.lemmas.Option.{slice_get-map, slice_get-get_or}
use Rattle.net_model.specs.Network.{Plan, IsLink}
use Rattle.net_model.specs.declared.part.Edge.{Edge}
use Rattle.net_model.specs.declared.part.Link.{Link}
use Rattle.strategy_model.specs.Situations.{Satisfies}
use Rattle.strategy_model.specs.Plays.{play, IsInstant}
use Rattle.strategy_model.specs.Control.{IsControllable}
use Rattle.strategy_model.specs.Edges.{HoldsIn}
use Rattle.strategy_model.specs.Laws.{CompletionFollowsActivation, LoopsExcludeSchedules}
use Rattle.strategy_model.specs.declared.tree.Tree.{Tree}
use Rattle.strategy_model.proofs.CompareLemmas.{own_size}
use Rattle.strategy_model.proofs.LongestLemmas.{longest_of, longest_situation}
use Rattle.longest_case.specs.Longest.{LastsLongest, IsKeptAtLongest, HoldsAtLongest}
use Rattle.longest_case.specs.Loops.{HasNegativeLoop}

module _ (completes : CompletionFollowsActivation) (net : Plan) (instant : IsInstant net) where
  -- in a play of the situation each link takes its longest duration
  lasting : (strategy : Tree) (schedule : List ℕ) → play strategy net (longest_of net.links) ≡ Some schedule → All (LastsLongest schedule) net.links
  lasting strategy schedule played place other inside =
      let link = get_or net.links place other in
      let declared = slice_get-get_or net.links place other inside in
      let picked : slice_get (longest_of net.links) place ≡ Some (nat_abs link.high) =
      slice_get-map (λ (l : Link). nat_abs l.high) net.links place ∙ ap (option_map (λ (l : Link). nat_abs l.high)) declared in
      let sound : IsLink net link = instant.sound.links_sound place other inside in
      let follows = completes net strategy (longest_of net.links) schedule (record { 0 = place }) link (nat_abs link.high) instant played declared picked in
      let low = sound.positive in
      let high = sound.interval in
      let size = own_size link.high (omega (arith, ints, low, high)) in
      omega (arith, ints, follows, size)

  pub kept_at_longest : (strategy : Tree) (schedule : List ℕ) → play strategy net (longest_of net.links) ≡ Some schedule → Satisfies net schedule → IsKeptAtLongest net schedule
  kept_at_longest strategy schedule played satisfies = record { keeps = satisfies.keeps; lasting = lasting strategy schedule played }

  pub loop_excludes : LoopsExcludeSchedules → (edges : List Edge) → All (HoldsAtLongest net) edges → HasNegativeLoop edges → ¬ IsControllable net
  loop_excludes excludes edges hold (walk, among, negative) (strategy, controls) =
      let (schedule, played, satisfies) = controls (longest_of net.links) (longest_situation net instant.sound) in
      let kept = kept_at_longest strategy schedule played satisfies in
      let holds : All (HoldsIn schedule) walk =
      All-weaker (Contains edges) (HoldsIn schedule) (λ edge here. All-contains (HoldsAtLongest net) edges edge hold here schedule kept) walk among in
      excludes schedule walk negative (recursion_from_All (HoldsIn schedule) walk holds)
