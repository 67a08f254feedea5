-- The place of a point in an order: along every negative edge, labelled or not, it decreases.
use Rattle.std.proofs.Common.{◌≡◌, ℕ, pos, ◌<◌, ◌<ℤ◌, List, Option, Some, None, length, get_or, refl, ap, sym, ◌∙◌, arith, true, inl, inr}
use Rattle.std.specs.Prelude.{slice_get}
use Rattle.std.specs.List.{Contains, position_or_len}
use Rattle.std.proofs.lemmas.Int.{ints, int_max_is}
use Rattle.std.proofs.lemmas.Bool.{cases_lt, both_ways}
use Rattle.std.proofs.lemmas.Option.{slice_get-get_or}
use Rattle.std.proofs.lemmas.List.Sums.{fails_before_first, passes_at_first}
use Rattle.net_model.specs.Network.{Plan, IsPlan}
use Rattle.net_model.specs.Edges.{IsLinkOf}
use Rattle.net_model.specs.Rules.{is_ordinary}
use Rattle.net_model.specs.declared.ids.PointId.{PointId}
use Rattle.net_model.specs.declared.ids.LinkId.{LinkId}
use Rattle.net_model.specs.declared.part.Edge.{Edge}
use Rattle.net_model.specs.declared.part.Link.{Link}
use Rattle.net_model.proofs.AppliedRuleLemmas.{negative_holds}
use Rattle.strategy_model.specs.Plays.{same_point}
use Rattle.strategy_model.specs.Dispatch.{IsForwardClosedList, IsOrder, HoldsBack}
use Rattle.strategy_model.proofs.MomentLemmas.{same_from_test, test_from_same}
use Rattle.strategy_model.proofs.PlayLemmas.{link_sound}
use Rattle.strategy_model.proofs.ExactLemmas.{below_zero}
use Rattle.strategy_model.proofs.ClosedLemmas.{stands_link, stands_removal, edge_sound, label_sound}

-- the place of a point in an order
abbrev pub rank : List PointId → PointId → ℕ
rank order point = position_or_len (same_point point) order

-- a point of the order has its place there
pub rank_within : (order : List PointId) (point : PointId) → Contains order point → rank order point < length order
rank_within order point (k, inside, here) =
    elim (cases_lt k (rank order point)) [
      | inl before ↦ absurd (both_ways (same_point point (get_or order k point)) (fails_before_first (same_point point) order k point before) (test_from_same point (get_or order k point) (sym here)))
      | inr not_before ↦ omega (arith, inside)
    ]

rank_is : (order : List PointId) (point : PointId) → Contains order point → slice_get order (rank order point) ≡ Some point
rank_is order point among =
    let within = rank_within order point among in
    let same = same_from_test point (get_or order (rank order point) point) (passes_at_first (same_point point) order point within) in
    slice_get-get_or order (rank order point) point within ∙ ap (λ (p : PointId). Some p) (sym same)

module _ (net : Plan) (edges : List Edge) (order : List PointId) (plan : IsPlan net) (closed : IsForwardClosedList net edges) (ordered : IsOrder net edges order) where
  descends_along : (edge : Edge) → Contains edges edge → edge.label ≡ None → edge.weight <ℤ pos 0 → rank order edge.to < rank order edge.from
  descends_along edge among ordinary negative =
      let sound = edge_sound net edges closed edge among in
      let is_ordinary_holds : is_ordinary edge ≡ true = rw ordinary refl in
      ordered.descends edge (rank order edge.from) (rank order edge.to) among (is_ordinary_holds, negative_holds edge negative) (rank_is order edge.from (ordered.complete edge.from sound.from_point))
      (rank_is order edge.to (ordered.complete edge.to sound.to_point))

  -- along a negative labelled edge, since removal gives a negative ordinary one
  descends_along_wait : (edge : Edge) (name : LinkId) → Contains edges edge → edge.label ≡ Some name → edge.weight <ℤ pos 0 → rank order edge.to < rank order edge.from
  descends_along_wait edge name among labelled negative =
      let (link, declared, ends) = label_sound net edges closed edge name among labelled in
      let stands = stands_removal net edges closed name link edge declared among labelled in
      let positive = (link_sound net plan name.0 link declared).positive in
      let at_most = stands.at_most in
      let below : stands.entry.weight <ℤ pos 0 = grind (arith, ints, int_max_is) in
      let descends = descends_along stands.entry stands.among stands.label below in
      let from : rank order stands.entry.from ≡ rank order edge.from = ap (rank order) stands.from in
      let to : rank order stands.entry.to ≡ rank order edge.to = ap (rank order) stands.to in
      omega (arith, descends, from, to)

  -- along whatever holds a point back
  pub descends_to : (point : PointId) (edge : Edge) → HoldsBack edges point edge → rank order edge.to < rank order point
  descends_to point edge holds =
      let negative = below_zero edge holds.negative in
      let from : rank order edge.from ≡ rank order point = ap (rank order) holds.begins in
      let descends = by edge.label refl negative in
      omega (arith, descends, from)
    where
      by : (label : Option LinkId) → edge.label ≡ label → edge.weight <ℤ pos 0 → rank order edge.to < rank order edge.from
      by None ordinary negative = descends_along edge holds.among ordinary negative
      by (Some name) labelled negative = descends_along_wait edge name holds.among labelled negative

  -- from a contingent point to its activation point
  pub descends_to_activation : (name : LinkId) (link : Link) → IsLinkOf net name link → rank order link.from < rank order link.to
  descends_to_activation name link declared =
      let stands = stands_link net edges closed name link declared in
      let sound = link_sound net plan name.0 link declared in
      let positive = sound.positive in
      let interval = sound.interval in
      let at_most = stands.at_most in
      let below : stands.entry.weight <ℤ pos 0 = omega (arith, ints, positive, interval, at_most) in
      let descends = descends_along_wait stands.entry name stands.among stands.label below in
      let from : rank order stands.entry.from ≡ rank order link.to = ap (rank order) stands.from in
      let to : rank order stands.entry.to ≡ rank order link.from = ap (rank order) stands.to in
      omega (arith, descends, from, to)
