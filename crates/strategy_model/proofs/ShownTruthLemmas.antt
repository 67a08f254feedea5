-- Truth and soundness in the shown form.
use Rattle.std.proofs.Common.{◌≡◌, ℕ, pos, zero, suc, ◌+◌, ◌+ℤ◌, List, [], ◌∷◌, map, Option, Some, None, refl, sym, ap, subst, ◌∙◌, arith}
use Rattle.std.specs.Prelude.{slice_get}
use Rattle.std.specs.Option.{option_map}
use Rattle.std.proofs.lemmas.Int.{ints}
use Rattle.std.proofs.lemmas.Option.{none-some, same_Some, slice_get-map}
use Rattle.net_model.specs.Network.{Plan, IsPlan}
use Rattle.net_model.specs.declared.ids.LinkId.{LinkId}
use Rattle.net_model.specs.declared.part.Link.{Link}
use Rattle.net_model.specs.declared.part.Edge.{Edge}
use Rattle.strategy_model.specs.Plays.{play}
use Rattle.strategy_model.specs.Edges.{HoldsIn, HoldsOf, TakesLongest}
use Rattle.strategy_model.specs.declared.tree.Tree.{Tree}
use Rattle.strategy_model.proofs.LoopLemmas.{law_refutations_exclude_strategies}
use Rattle.net_model.specs.ShownForm.{gain, shown_link, shown_form, shown_durations, shown_situation}
use Rattle.strategy_model.specs.ShownSchedules.{shown_schedule}
use Rattle.strategy_model.specs.ShownLaws.{HoldsAsShown, TruthIsShown, ShownRefutationsExclude}
use Rattle.strategy_model.proofs.ShownFormLemmas.{play_stated, play_as_shown, situation_stated, durations_shown, law_controllable_is_shown, law_shown_form_is_instant}

module _ (net : Plan) where
  -- a link takes its longest duration if it does as shown
  pub durations_at : (links : List Link) (durations : List ℕ) (k : ℕ) (link : Link) (duration : ℕ) → slice_get links k ≡ Some link → slice_get durations k ≡ Some duration
      → slice_get (shown_durations net links durations) k ≡ Some (duration + gain net link)
  durations_at [] durations k link duration declared lasts = absurd (none-some link declared)
  durations_at (l ∷ links) [] k link duration declared lasts = absurd (none-some duration lasts)
  durations_at (l ∷ links) (d ∷ durations) zero link duration declared lasts =
      ap (λ (e : ℕ). Some (e + gain net l)) (same_Some d duration lasts) ∙ ap (λ (m : Link). Some (duration + gain net m)) (same_Some l link declared)
  durations_at (l ∷ links) (d ∷ durations) (suc k) link duration declared lasts = durations_at links durations k link duration declared lasts

  pub link_at : (k : ℕ) (link : Link) → slice_get net.links k ≡ Some link → slice_get (shown_form net).links k ≡ Some (shown_link net link)
  link_at k link declared = slice_get-map (shown_link net) net.links k ∙ ap (option_map (shown_link net)) declared

  longest_stated : (situation : List ℕ) (label : Option LinkId) → TakesLongest (shown_form net) (shown_situation net situation) label → TakesLongest net situation label
  longest_stated situation None longest = tt
  longest_stated situation (Some label) longest = λ link duration declared lasts.
      let is = longest (shown_link net link) (duration + gain net link) (link_at label.0 link declared) (durations_at net.links situation label.0 link duration declared lasts) in
      omega (arith, ints, is)

  link_back : (links : List Link) (durations : List ℕ) (k : ℕ) (link : Link) (duration : ℕ) → slice_get (map (shown_link net) links) k ≡ Some link → slice_get (shown_durations net links durations) k ≡ Some duration
      → (stated : Link) × (its : ℕ) × (slice_get links k ≡ Some stated) × (slice_get durations k ≡ Some its) × (shown_link net stated ≡ link) × (its + gain net stated ≡ duration)
  link_back [] durations k link duration declared lasts = absurd (none-some link declared)
  link_back (l ∷ links) [] k link duration declared lasts = absurd (none-some duration lasts)
  link_back (l ∷ links) (d ∷ durations) zero link duration declared lasts =
      (l, d, refl, refl, same_Some (shown_link net l) link declared, same_Some (d + gain net l) duration lasts)
  link_back (l ∷ links) (d ∷ durations) (suc k) link duration declared lasts = link_back links durations k link duration declared lasts

  longest_shown : (situation : List ℕ) (label : Option LinkId) → TakesLongest net situation label → TakesLongest (shown_form net) (shown_situation net situation) label
  longest_shown situation None longest = tt
  longest_shown situation (Some label) longest = λ link duration declared lasts.
      let (stated, its, its_declared, its_lasts, is, sum) = link_back net.links situation label.0 link duration declared lasts in
      let most = longest stated its its_declared its_lasts in
      let high : stated.high +ℤ pos (gain net stated) ≡ link.high = ap (λ (l : Link). l.high) is in
      omega (arith, ints, most, high, sum)

  truth_shown : IsPlan net → (strategy : Tree) (edge : Edge) → HoldsAsShown net strategy edge → HoldsOf (shown_form net) strategy edge
  truth_shown plan strategy edge holds situation schedule is_situation longest played =
      let (stated, is_stated, is) = situation_stated net plan situation is_situation in
      let longest_there = subst (λ (s : List ℕ). TakesLongest (shown_form net) s edge.label) (sym is) longest in
      let played_there = subst (λ (s : List ℕ). play strategy (shown_form net) s ≡ Some schedule) (sym is) played in
      let (its, its_play, shows) = play_stated net strategy stated schedule played_there in
      subst (λ (s : List ℕ). HoldsIn s edge) shows (holds stated its is_stated (longest_stated stated edge.label longest_there) its_play)

  truth_stated : (strategy : Tree) (edge : Edge) → HoldsOf (shown_form net) strategy edge → HoldsAsShown net strategy edge
  truth_stated strategy edge holds situation schedule is_situation longest played =
      holds (shown_situation net situation) (shown_schedule net schedule) (durations_shown net net.links situation is_situation) (longest_shown situation edge.label longest)
      (play_as_shown net strategy situation schedule played)

pub law_truth_is_shown : TruthIsShown
law_truth_is_shown net strategy edge plan = (truth_shown net plan strategy edge, truth_stated net strategy edge)

pub law_shown_refutations_exclude : ShownRefutationsExclude
law_shown_refutations_exclude net edges walk plan derivation among loop controllable =
    law_refutations_exclude_strategies (shown_form net) edges walk (law_shown_form_is_instant net plan) derivation among loop ((law_controllable_is_shown net plan).0 controllable)
