-- If the edges of a closed list are true of every strategy that controls the network, no such strategy is ahead of the schedule of lower
-- bounds and waits.
use Rattle.std.proofs.Common.{◌≡◌, ℕ, zero, suc, ◌<◌, ◌≤◌, List, [], Option, Some, None, refl, ap, sym, ◌∙◌, arith, inl, inr}
use Rattle.std.specs.List.{All}
use Rattle.std.proofs.lemmas.Bool.{cases_lt}
use Rattle.std.proofs.lemmas.Int.{ints}
use Rattle.std.proofs.lemmas.List.Elements.{All-contains}
use Rattle.net_model.specs.Network.{Plan, IsPoint}
use Rattle.net_model.specs.declared.ids.PointId.{PointId}
use Rattle.net_model.specs.declared.ids.LinkId.{LinkId}
use Rattle.net_model.specs.declared.part.Edge.{Edge}
use Rattle.strategy_model.specs.Situations.{IsSituation, moment_in}
use Rattle.strategy_model.specs.Plays.{IsInstant, play}
use Rattle.strategy_model.specs.Control.{Controls}
use Rattle.strategy_model.specs.Edges.{HoldsIn, HoldsOf}
use Rattle.strategy_model.specs.Dispatch.{IsForwardClosedList, IsOrder, HoldsBack, IsDispatched, release_moment}
use Rattle.strategy_model.specs.DispatchLaws.{DispatchedAreEarliest}
use Rattle.strategy_model.specs.declared.tree.Tree.{Tree}
use Rattle.strategy_model.proofs.PlayLemmas.{link_sound}
use Rattle.strategy_model.proofs.InstantLemmas.{as_instant}
use Rattle.strategy_model.proofs.AgreeLemmas.{played_length}
use Rattle.strategy_model.proofs.CompareLemmas.{law_completion_follows_activation, duration_of}
use Rattle.strategy_model.proofs.RuleLemmas.{free, wait_kept}
use Rattle.strategy_model.proofs.EarliestLemmas.{place_by_place}
use Rattle.strategy_model.proofs.ExactLemmas.{below_zero}
use Rattle.strategy_model.proofs.ClosedLemmas.{edge_sound, label_sound}
use Rattle.strategy_model.proofs.OrderLemmas.{rank, descends_to, descends_to_activation}
use Rattle.strategy_model.proofs.KindLemmas.{kind}
use Rattle.strategy_model.proofs.ViolationLemmas.{size_of, bound_release_moment, wait_release_moment, completion_is}
use Rattle.strategy_model.proofs.SeenLemmas.{no_later, law_dispatched_are_one}
use Rattle.strategy_model.proofs.CompletenessLemmas.{law_forward_lists_give_strategies}

-- The schedule of lower bounds and waits that a closed list of edges with an order gives in a situation, and what a strategy
-- that controls the network, of which these edges are true, plays there.
record DispatchedAndPlayed (net : Plan) (edges : List Edge) (order : List PointId) (situation schedule : List ℕ) (strategy : Tree) (other : List ℕ) : Type 0 where
  pub instant : IsInstant net
  pub closed : IsForwardClosedList net edges
  pub ordered : IsOrder net edges order
  pub is_situation : IsSituation net situation
  pub dispatched : IsDispatched net edges situation schedule
  pub controls : Controls strategy net
  pub all : All (HoldsOf net strategy) edges
  pub played : play strategy net situation ≡ Some other

module _ (net : Plan) (edges : List Edge) (order : List PointId) (situation schedule : List ℕ) (strategy : Tree) (other : List ℕ)
    (both : DispatchedAndPlayed net edges order situation schedule strategy other) where
  -- a point of the play isn't held back longer by an edge whose end comes no sooner in the play
  held : (point : PointId) (edge : Edge) → HoldsBack edges point edge → moment_in schedule edge.to ≤ moment_in other edge.to → release_moment net schedule edge ≤ moment_in other point
  held point edge holds later = by edge.label refl
    where
      true_edge : HoldsOf net strategy edge
      true_edge = All-contains (HoldsOf net strategy) edges edge both.all holds.among

      at : moment_in other edge.from ≡ moment_in other point
      at = ap (moment_in other) holds.begins

      by : (label : Option LinkId) → edge.label ≡ label → release_moment net schedule edge ≤ moment_in other point
      by None ordinary =
          let size = size_of edge.weight (below_zero edge holds.negative) in
          let asks = bound_release_moment net schedule edge ordinary in
          let keeps : HoldsIn other edge = true_edge situation other both.is_situation (free net situation edge.label ordinary) both.played in
          omega (arith, ints, size, asks, keeps, later, at)
      by (Some name) labelled =
          let size = size_of edge.weight (below_zero edge holds.negative) in
          let asks = wait_release_moment net schedule edge name labelled in
          let (link, declared, ends) = label_sound net edges both.closed edge name holds.among labelled in
          let completion = completion_is net schedule name link declared in
          let (duration, its, fits) = duration_of net.links situation name.0 link both.is_situation declared in
          let lasts = both.dispatched.contingent name link duration declared its in
          let lasts_other = law_completion_follows_activation net strategy situation other name link duration both.instant both.played declared its in
          let from : moment_in schedule edge.to ≡ moment_in schedule link.from = ap (moment_in schedule) ends in
          let from_other : moment_in other edge.to ≡ moment_in other link.from = ap (moment_in other) ends in
          elim (cases_lt (moment_in other edge.from) (moment_in other link.to)) [
            | inl before ↦
                let keeps : HoldsIn other edge = wait_kept net strategy name link edge situation other both.instant both.controls true_edge labelled declared ends both.is_situation both.played before in
                omega (arith, ints, size, asks, keeps, later, at)
            | inr after ↦ omega (arith, asks, completion, lasts, lasts_other, from, from_other, later, after, at)
          ]

  -- no point comes sooner in the play
  not_ahead : (limit : ℕ) (point : PointId) → rank order point < limit → IsPoint net point → moment_in schedule point ≤ moment_in other point
  not_ahead zero point within is_point = absurd (omega (arith, within))
  not_ahead (suc limit) point within is_point =
      elim (kind net point is_point) [
        | inl executable ↦ no_later net edges schedule point (moment_in other point) (both.dispatched.executable point executable) (λ edge holds.
            let descends = descends_to net edges order both.instant.sound both.closed both.ordered point edge holds in
            held point edge holds (not_ahead limit edge.to (omega (arith, descends, within)) (edge_sound net edges both.closed edge holds.among).to_point))
        | inr ending ↦
            let link = ending.link in
            let (duration, its, fits) = duration_of net.links situation ending.name.0 link both.is_situation ending.declared in
            let lasts = both.dispatched.contingent ending.name link duration ending.declared its in
            let lasts_other = law_completion_follows_activation net strategy situation other ending.name link duration both.instant both.played ending.declared its in
            let at : moment_in schedule link.to ≡ moment_in schedule point = ap (moment_in schedule) ending.ends in
            let at_other : moment_in other link.to ≡ moment_in other point = ap (moment_in other) ending.ends in
            let descends = descends_to_activation net edges order both.instant.sound both.closed both.ordered ending.name link ending.declared in
            let same_place : rank order link.to ≡ rank order point = ap (rank order) ending.ends in
            let rest = not_ahead limit link.from (omega (arith, descends, same_place, within)) (link_sound net both.instant.sound ending.name.0 link ending.declared).from_point in
            omega (arith, lasts, lasts_other, at, at_other, rest)
      ]

pub law_dispatched_are_earliest : DispatchedAreEarliest
law_dispatched_are_earliest net edges order situation schedule instant closed ordered all is_situation dispatched =
    let (strategy, controls, dispatches) = law_forward_lists_give_strategies net edges order instant closed ordered in
    let (made, played, is_made) = dispatches situation is_situation in
    let same : made ≡ schedule = law_dispatched_are_one net edges order situation made schedule instant closed ordered is_situation is_made dispatched in
    record {
      is_situation = is_situation;
      strategy = strategy;
      controls = controls;
      played = played ∙ ap (λ (s : List ℕ). Some s) same;
      earliest = λ other its controls_too played_too.
          let size = played_length net situation its other [] 0 (as_instant net other situation its instant played_too) in
          let both : DispatchedAndPlayed net edges order situation schedule other its = record {
            instant = instant;
            closed = closed;
            ordered = ordered;
            is_situation = is_situation;
            dispatched = dispatched;
            controls = controls_too;
            all = all other controls_too;
            played = played_too;
          } in
          place_by_place schedule its (dispatched.complete ∙ sym size)
          (λ k within. not_ahead net edges order situation schedule other its both
          (suc (rank order (record { 0 = k }))) (record { 0 = k }) (omega arith) (let long = dispatched.complete in omega (arith, within, long)));
    }
