-- A table that saturates each edge with every edge before it, unless the edge goes by a negative one along an order, is closed.
use Rattle.std.proofs.Common.{◌≡◌, ℕ, zero, suc, ◌+◌, ◌<◌, ◌≤◌, ℤ, pos, ◌+ℤ◌, ◌≤ℤ◌, ◌<ℤ◌, ◌⊎◌, Bool, true, false, List, length, get_or, Option, Some, None, refl, ap, sym, subst, ◌∙◌, inl, inr, arith}
use Rattle.std.specs.Int.{int_max}
use Rattle.std.specs.Prelude.{◌&&◌, replicate}
use Rattle.std.proofs.lemmas.Int.{ints, int_max_is}
use Rattle.std.proofs.lemmas.List.{length-replicate}
use Rattle.net_model.specs.Network.{Plan}
use Rattle.net_model.specs.Rules.{joined_weight}
use Rattle.net_model.specs.declared.ids.LinkId.{LinkId}
use Rattle.net_model.specs.declared.ids.PointId.{PointId}
use Rattle.net_model.specs.declared.part.Edge.{Edge}
use Rattle.net_model.proofs.AppliedRuleLemmas.{no_case_applies, upper_case_applies}
use Rattle.closure_model.specs.Keys.{Shape, all_points, ordinary_key}
use Rattle.closure_model.specs.Orders.{IsOrder}
use Rattle.closure_model.specs.Tables.{Graph, weight_of, HasEdge, HasAtMost, IsAtMost, IsClosed, IsFor}
use Rattle.closure_model.proofs.BaseLemmas.{all_contained}
use Rattle.closure_model.proofs.Consequences.{all_points_stand}
use Rattle.closure_model.proofs.OrderLemmas.{descends_in_order, in_points}
use Rattle.closure_model.proofs.RowsNeedRows.{goes_from}
use Rattle.closure_model.proofs.TableLemmas.{at_most_from, at_most_gives}
use Rattle.closure_model.proofs.Walks.{goes_lower}
use Rattle.std.specs.List.{All}
use Rattle.labelled_graph.specs.Words.{SaturatesHeld}
use Rattle.loop_finder.specs.KeptOrders.{place_in_order}
use Rattle.network_closure.specs.Saturation.{IsPartialClosure, IsEdgeBetween, SaturatesFirsts, SaturatesAll}
use Rattle.network_closure.specs.RowTest.{AreCovered, GoesBy, IsSequence, points_below, SaturatesAt, SaturatesBefore, SaturatesInto, SaturatesUnlessBy}
use Rattle.network_closure.proofs.ConsequenceLemmas.{held_one, saturates_by_test, saturates_no_firsts}
use Rattle.network_closure.proofs.PartialClosureLemmas.{derivable_is, saturated_is_closed}

-- what follows with an ordinary edge before a negative edge that is saturated with every edge before it
saturated_after : (table : Graph) (first edge : Edge) → edge.weight <ℤ pos 0 → SaturatesFirsts table edge → HasEdge table first → first.label ≡ None → first.to ≡ edge.from
    → HasAtMost table (record { from = first.from; to = edge.to; label = edge.label; weight = joined_weight first edge })
saturated_after table first edge negative saturates has ordinary meeting = by edge.label refl
  where
    by : (label : Option LinkId) → edge.label ≡ label → HasAtMost table (record { from = first.from; to = edge.to; label = edge.label; weight = joined_weight first edge })
    by None is = subst (λ (label : Option LinkId). HasAtMost table (record { from = first.from; to = edge.to; label = label; weight = joined_weight first edge })) (sym is)
        ((saturates first has).no_case (record { from = first.from; to = edge.to; label = None; weight = joined_weight first edge }) (no_case_applies first edge ordinary is meeting negative))
    by (Some label) is =
        (saturates first has).upper_case (record { from = first.from; to = edge.to; label = edge.label; weight = joined_weight first edge }) (upper_case_applies first edge label ordinary is meeting negative)

no_more_after : (v w x first next weight : ℤ) → first <ℤ pos 0 → next ≤ℤ weight → w ≤ℤ (int_max v (pos 0) +ℤ first) → x ≤ℤ (int_max w (pos 0) +ℤ next) → x ≤ℤ (int_max v (pos 0) +ℤ weight)
no_more_after v w x first next weight negative less here there = omega (arith, ints, int_max_is v (pos 0), int_max_is w (pos 0))

-- the edge that an edge goes by, and the one after it
abbrev first_of : (table : Graph) (edge : Edge) → GoesBy table edge → Edge
first_of table edge over = record { from = edge.from; to = over.by; label = None; weight = over.first }

abbrev next_of : (table : Graph) (edge : Edge) → GoesBy table edge → Edge
next_of table edge over = record { from = over.by; to = edge.to; label = edge.label; weight = over.next }

-- an edge that goes by a negative one is saturated with every edge before it if both edges are
by_saturated : (net : Plan) (table : Graph) (edge : Edge) → IsPartialClosure net table → (over : GoesBy table edge) → edge.weight <ℤ pos 0 → SaturatesFirsts table (first_of table edge over)
    → SaturatesFirsts table (next_of table edge over) → SaturatesFirsts table edge
by_saturated net table edge partial_closure over low one two = saturates_by_test net table partial_closure edge (λ point inside. held point (weight_of table (ordinary_key point edge.from)) refl)
  where
    low_next : over.next <ℤ pos 0
    low_next = let no_more = over.no_more in omega (arith, ints)

    held : (point : PointId) (o : Option ℤ) → weight_of table (ordinary_key point edge.from) ≡ o → SaturatesHeld o (weight_of table (record { to = edge.to; from = point; label = edge.label })) edge.weight
    held point None none = tt
    held point (Some v) is =
        let (w, w_is, w_less) = at_most_gives table (record { from = point; to = over.by; label = None; weight = int_max v (pos 0) +ℤ over.first })
        (saturated_after table (record { from = point; to = edge.from; label = None; weight = v }) (first_of table edge over) over.negative one is refl refl) in
        let (x, x_is, x_less) = at_most_gives table (record { from = point; to = edge.to; label = edge.label; weight = int_max w (pos 0) +ℤ over.next })
        (saturated_after table (record { from = point; to = over.by; label = None; weight = w }) (next_of table edge over) low_next two w_is refl refl) in
        at_most_from table (record { from = point; to = edge.to; label = edge.label; weight = int_max v (pos 0) +ℤ edge.weight }) x x_is
        (no_more_after v w x over.first over.next edge.weight over.negative over.no_more w_less x_less)

-- every edge that goes by a negative one along an order is saturated with every edge before it
module _ (net : Plan) (table : Graph) (points : List PointId) (is_order : Bool) (partial_closure : IsPartialClosure net table) (sequence : IsSequence table points is_order)
    (tested : (edge : Edge) → HasEdge table edge → SaturatesUnlessBy net is_order table edge) where
  sign_of : (w : ℤ) → (pos 0 ≤ℤ w) ⊎ (w <ℤ pos 0)
  sign_of w = grind (arith, ints)

  unless_by : (edge : Edge) → HasEdge table edge → ((is_order ≡ true) → (over : GoesBy table edge) → edge.weight <ℤ pos 0 → SaturatesFirsts table edge) → SaturatesFirsts table edge
  unless_by edge has goes = by (tested edge has).firsts (sign_of edge.weight)
    where
      by : SaturatesBefore is_order table edge → (pos 0 ≤ℤ edge.weight) ⊎ (edge.weight <ℤ pos 0) → SaturatesFirsts table edge
      by (inl each) sign = each
      by (inr over) (inl high) = λ first before. saturates_no_firsts table edge high first
      by (inr over) (inr low) = goes over.0 over.1 low

  first_descends : (edge : Edge) (over : GoesBy table edge) → is_order ≡ true → place_in_order points over.by < place_in_order points edge.from
  first_descends edge over so = sequence.ordered so (first_of table edge over) over.has_first refl over.negative

  next_descends : (edge : Edge) (over : GoesBy table edge) → is_order ≡ true → edge.label ≡ None → edge.weight <ℤ pos 0 → place_in_order points edge.to < place_in_order points over.by
  next_descends edge over so ordinary low = let no_more = over.no_more in sequence.ordered so (next_of table edge over) over.has_next ordinary (omega (arith, ints))

  -- ordinary edges, by how far apart their ends are in the order
  ordinary_within : (most : ℕ) (edge : Edge) → HasEdge table edge → edge.label ≡ None → place_in_order points edge.from ≤ place_in_order points edge.to + most → SaturatesFirsts table edge
  ordinary_within zero edge has ordinary near =
      unless_by edge has (λ so over low. let first = first_descends edge over so in let next = next_descends edge over so ordinary low in absurd (omega (arith, near, first, next)))
  ordinary_within (suc most) edge has ordinary near = unless_by edge has (λ so over low.
      let first = first_descends edge over so in
      let next = next_descends edge over so ordinary low in
      by_saturated net table edge partial_closure over low (ordinary_within most (first_of table edge over) over.has_first refl (omega (arith, near, first, next)))
      (ordinary_within most (next_of table edge over) over.has_next ordinary (omega (arith, near, first, next))))

  -- all edges, by where they begin in the order
  firsts_within : (most : ℕ) (edge : Edge) → HasEdge table edge → place_in_order points edge.from ≤ most → SaturatesFirsts table edge
  firsts_within zero edge has near = unless_by edge has (λ so over low. let first = first_descends edge over so in absurd (omega (arith, near, first)))
  firsts_within (suc most) edge has near = unless_by edge has (λ so over low.
      let first = first_descends edge over so in
      by_saturated net table edge partial_closure over low (ordinary_within (place_in_order points edge.from) (first_of table edge over) over.has_first refl (omega arith))
      (firsts_within most (next_of table edge over) over.has_next (omega (arith, near, first))))

  saturates_each : (edge : Edge) → HasEdge table edge → SaturatesAll net table edge
  saturates_each edge has = record {
    removal = (tested edge has).removal;
    over_links = (tested edge has).over_links;
    firsts = firsts_within (place_in_order points edge.from) edge has (omega arith);
  }

  pub tested_is_closed : IsClosed net table
  tested_is_closed = saturated_is_closed net table partial_closure saturates_each

-- ---- sequences
pub sequence_of_order : (net : Plan) (low table : Graph) (order points : List PointId) → IsPartialClosure net table → IsFor net low → IsAtMost low table → IsOrder low order → points ≡ order → IsSequence table points true
sequence_of_order net low table order points partial_closure fits less is same = subst (λ (l : List PointId). IsSequence table l true) (sym same) (record {
  whole = λ point inside. is.whole point (subst (λ (s : Shape). point.0 < s.points) shapes inside);
  within = subst (λ (s : Shape). All (λ (point : PointId). point.0 < s.points) order) (sym shapes) is.points;
  ordered = λ so edge has ordinary negative. descends_in_order low order is edge.from edge.to (inside edge has).0 (inside edge has).1 (goes_lower low table edge.from edge.to less (goes_from table edge has ordinary negative));
})
  where
    shapes : table.shape ≡ low.shape
    shapes = partial_closure.fits ∙ sym fits

    inside : (edge : Edge) → HasEdge table edge → (edge.from.0 < low.shape.points) × (edge.to.0 < low.shape.points)
    inside edge has =
        let is_edge = derivable_is net partial_closure.plan edge (partial_closure.derivable edge has) in
        (subst (λ (s : Shape). edge.from.0 < s.points) (sym fits) is_edge.from_point, subst (λ (s : Shape). edge.to.0 < s.points) (sym fits) is_edge.to_point)

pub sequence_of_points : (net : Plan) (table : Graph) (points : List PointId) → IsPartialClosure net table → points ≡ points_below (length net.points) → IsSequence table points false
sequence_of_points net table points partial_closure is = subst (λ (l : List PointId). IsSequence table l false) (same ∙ sym is) (record {
  whole = λ point inside. all_points_stand table.shape point inside;
  within = all_contained (λ (point : PointId). point.0 < table.shape.points) (all_points table.shape) (λ point inside. in_points table point inside);
  ordered = λ so. absurd cc;
})
  where
    same : all_points table.shape ≡ points_below (length net.points)
    same = ap (λ (s : Shape). all_points s) partial_closure.fits

-- ---- marks
no_mark : (count k : ℕ) → get_or (replicate count false) k false ≡ false
no_mark zero k = refl
no_mark (suc count) zero = refl
no_mark (suc count) (suc k) = no_mark count k

pub none_are_covered : (net : Plan) (table : Graph) (to : PointId) (label : Option LinkId) (covered : List Bool) → covered ≡ replicate (length net.points) false → AreCovered net table to label covered
none_are_covered net table to label covered is = subst (AreCovered net table to label) (sym is) (record {
  each_point = simp length-replicate;
  goes_by = λ k marked. (let none = no_mark (length net.points) k in absurd cc);
})

-- the marks of the row of an edge that was found
pub covered_there : (net : Plan) (table : Graph) (from to : PointId) (label : Option LinkId) (edge : Edge) (covered : List Bool) → IsEdgeBetween table from to label edge → AreCovered net table to label covered
    → AreCovered net table edge.to edge.label covered
covered_there net table from to label edge covered held are = subst (λ (l : Option LinkId). AreCovered net table edge.to l covered) (sym held.label_is) (subst (λ (p : PointId). AreCovered net table p label covered) (sym held.to_is) are)

pub covered_here : (net : Plan) (table : Graph) (from to : PointId) (label : Option LinkId) (edge : Edge) (covered : List Bool) → IsEdgeBetween table from to label edge → AreCovered net table edge.to edge.label covered
    → AreCovered net table to label covered
covered_here net table from to label edge covered held are = subst (λ (l : Option LinkId). AreCovered net table to l covered) held.label_is (subst (λ (p : PointId). AreCovered net table p edge.label covered) held.to_is are)

pub both_hold : (a b : Bool) → (a && b) ≡ true → (a ≡ true) × (b ≡ true)
both_hold true true is = (refl, refl)
both_hold true false is = absurd cc
both_hold false b is = absurd cc

-- ---- rows
pub tested_at : (net : Plan) (is_order : Bool) (table : Graph) (from to : PointId) (label : Option LinkId) (edge : Edge) → IsEdgeBetween table from to label edge → SaturatesUnlessBy net is_order table edge
    → SaturatesAt net is_order table from to label
tested_at net is_order table from to label edge held tested other has begins ends labels =
    subst (SaturatesUnlessBy net is_order table) (held_one table from to label edge other held has begins ends labels) tested

pub none_at : (net : Plan) (is_order : Bool) (table : Graph) (from to : PointId) (label : Option LinkId) → weight_of table (record { to = to; from = from; label = label }) ≡ None → SaturatesAt net is_order table from to label
none_at net is_order table from to label none edge has begins ends labels =
    let both : None ≡ Some edge.weight = sym none ∙ (ap (weight_of table) (λ i. record { to = sym ends i; from = sym begins i; label = sym labels i }) ∙ has) in
    absurd cc

pub tested_into : (net : Plan) (is_order : Bool) (table : Graph) (points : List PointId) (to : PointId) (label : Option LinkId) (end : ℕ) → IsPartialClosure net table → IsSequence table points is_order → length points ≤ end
    → ((k : ℕ) → k < end → (d : PointId) → SaturatesAt net is_order table (get_or points k d) to label) → SaturatesInto net is_order table to label
tested_into net is_order table points to label end partial_closure sequence done each edge has ends labels =
    let inside : edge.from.0 < table.shape.points = subst (λ (s : Shape). edge.from.0 < s.points) (sym partial_closure.fits) (derivable_is net partial_closure.plan edge (partial_closure.derivable edge has)).from_point in
    let (k, below, is) = sequence.whole edge.from inside in
    each k (omega (arith, below, done)) edge.from edge has (sym is) ends labels
