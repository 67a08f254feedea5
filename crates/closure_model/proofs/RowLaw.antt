-- The reference row is the least row: whatever is derivable in the row is saturated when all is settled, and what improved is derivable
-- there.
use Rattle.std.proofs.Common.{◌≡◌, ℕ, zero, suc, ◌≤◌, ℤ, ◌<ℤ◌, true, false, ◌⊎◌, [], length, map, Option, Some, None, refl, ap, sym, subst, ◌∙◌, inl, inr, arith}
use Rattle.std.specs.Prelude.{slice_get}
use Rattle.std.specs.List.{Contains, AllPairs}
use Rattle.net_model.specs.Network.{Plan, IsPlan}
use Rattle.net_model.specs.declared.ids.PointId.{PointId}
use Rattle.net_model.specs.declared.part.Edge.{Edge}
use Rattle.closure_model.specs.Keys.{key_of, row_keys}
use Rattle.closure_model.specs.Tables.{Graph, HasEdge, HasAtMost, weight_of, IsGraph, IsFor}
use Rattle.closure_model.specs.ReferenceRow.{edge_in, open_weight, IsInRow, of_table, first_slots, Making, settled_times, settled_row, reference_row, with_made, IsLeastRow, IsBelow, IsRowOf, RowsAreLeast, next_slot, IsAllSettled}
use Rattle.closure_model.specs.declared.rows.Made.{Made}
use Rattle.closure_model.specs.declared.rows.Slot.{Slot}
use Rattle.closure_model.specs.declared.rows.Why.{Why}
use Rattle.closure_model.proofs.Weights.{same_weight, le_then}
use Rattle.closure_model.proofs.Slots.{key_in, IsMet}
use Rattle.closure_model.proofs.GroundedEdges.{AreGrounded, grounded_none}
use Rattle.closure_model.proofs.FirstLeast.{FirstIs, first_least-is}
use Rattle.closure_model.proofs.RowSteps.{unsettled, length-unsettled, slot_there, after_slot, unsettled-after, settled_times-none, settled_times-some}
use Rattle.closure_model.proofs.TableLemmas.{all_lowered-at_most, all_lowered-has, all_lowered-cases, at_most_below, at_most_from, at_most_gives}
use Rattle.std.proofs.Math.ListN.{length-map}
use Rattle.closure_model.proofs.BaseLemmas.{all_contained}
use Rattle.closure_model.proofs.Lists.{Contains-map, Contains-map_from, Contains-none}
use Rattle.closure_model.proofs.RowEdges.{IsApart, IsMaking, IsNotAbove, later_making}
use Rattle.closure_model.proofs.RowFirst.{first_partly, first_slot, slot_from}
use Rattle.closure_model.proofs.SaturatedRows.{all_met, is_settled}

module _ (net : Plan) (table : Graph) (to : PointId) (plan : IsPlan net) (fits : IsFor net table) (sound : IsGraph table) where
  -- ---- the whole row
  -- the row is whole after so many settlings more
  abbrev IsWholeAfter : ℕ → Making → Type 0
  IsWholeAfter times making = IsMaking net table to plan fits sound (settled_times net table to times making) × IsAllSettled (settled_times net table to times making).slots

  -- the row between two settlings, with what is known of the next
  run_from : (times : ℕ) (making : Making) (next : Option (ℕ × ℤ)) → next_slot making.slots ≡ next → FirstIs open_weight making.slots next → unsettled making.slots ≤ times → IsMaking net table to plan fits sound making
      → ((less : ℕ) → suc less ≡ times → (after : Making) → unsettled after.slots ≤ less → IsMaking net table to plan fits sound after → IsWholeAfter less after)
      → IsWholeAfter times making
  run_from times making None none first enough is rest =
      let same = settled_times-none net table to times making none in
      (subst (IsMaking net table to plan fits sound) (sym same) is, subst (λ (m : Making). IsAllSettled m.slots) (sym same) first)
  run_from zero making (Some next) some first enough is rest =
      let there = slot_there making.slots next first.here in
      let fewer = unsettled-after net table to making next there.slot there.here there.is_open in
      absurd (omega arith)
  run_from (suc times) making (Some next) some first enough is rest =
      let there = slot_there making.slots next first.here in
      let fewer = unsettled-after net table to making next there.slot there.here there.is_open in
      let after : Making = after_slot net table to making next there.slot in
      let (making_is, all) = rest times refl after (omega arith) (later_making net table to plan fits sound making is next.0 there.slot next.1 there.here there.is_open there.has first) in
      let same = settled_times-some net table to times making next there.slot some there.here in
      (subst (IsMaking net table to plan fits sound) (sym same) making_is, subst (λ (m : Making). IsAllSettled m.slots) (sym same) all)

  run : (times : ℕ) (making : Making) → unsettled making.slots ≤ times → IsMaking net table to plan fits sound making → IsWholeAfter times making
  run zero making enough is = run_from zero making (next_slot making.slots) refl (first_least-is open_weight making.slots) enough is (λ less same. absurd (omega arith))
  run (suc times) making enough is =
      run_from (suc times) making (next_slot making.slots) refl (first_least-is open_weight making.slots) enough is (λ less same after fewer made. again less same after fewer made (λ after fewer made. run times after fewer made))
    where
      again : (less : ℕ) → suc less ≡ suc times → (after : Making) → unsettled after.slots ≤ less → IsMaking net table to plan fits sound after
          → ((after : Making) → unsettled after.slots ≤ times → IsMaking net table to plan fits sound after → IsWholeAfter times after)
          → IsWholeAfter less after
      again less same after fewer made given =
          let one : times ≡ less = omega arith in
          subst (λ (n : ℕ). IsWholeAfter n after) one (given after (omega arith) made)

  pub first_making : IsMaking net table to plan fits sound (record { slots = first_slots table to; made = [] })
  first_making = record {
    partly = first_partly net table to plan fits sound;
    listed = λ place slot why weight here is some has. absurd (never place slot here is);
    each = λ one inside. absurd (Contains-none one inside);
    once = λ i j d before inside. absurd (omega arith);
    in_order = λ i j d before inside. absurd (omega arith);
    grounded = grounded_none net table table;
    stand = λ place slot weight here is has. absurd (never place slot here is);
    ready = λ place slot why weight here is some has. absurd (never_improved place slot here why some);
  }
    where
      never : (place : ℕ) (slot : Slot) → slice_get (first_slots table to) place ≡ Some slot → slot.settled ≡ true → ⊥
      never place slot here is = let first = first_slot net table to plan fits sound place slot here in let not : false ≡ slot.settled = ap (λ (s : Slot). s.settled) first.is in absurd cc

      never_improved : (place : ℕ) (slot : Slot) → slice_get (first_slots table to) place ≡ Some slot → (why : Why) → slot.why ≡ Some why → ⊥
      never_improved place slot here why some = let first = first_slot net table to plan fits sound place slot here in let none : None ≡ slot.why = ap (λ (s : Slot). s.why) first.is in absurd cc

  whole : IsMaking net table to plan fits sound (settled_row net table to) × IsAllSettled (settled_row net table to).slots
  whole =
      let few = length-unsettled (first_slots table to) in
      let long = length-map (row_keys table.shape to) (slot_from net table to plan fits sound) in
      run (length (row_keys table.shape to)) (record { slots = first_slots table to; made = [] }) (omega arith) first_making

  after : Graph
  after = with_made table (reference_row net table to)

  row_derivable : (edge : Edge) → HasEdge after edge → edge.to ≡ to → IsInRow net table to edge
  unfolding after
  row_derivable edge has ends = by (all_lowered-cases table (map (λ (one : Made). one.edge) (reference_row net table to)) edge has)
    where
      by : Contains (map (λ (one : Made). one.edge) (reference_row net table to)) edge ⊎ HasEdge table edge → IsInRow net table to edge
      by (inr old) = of_table edge old ends
      by (inl new) =
          let (one, inside, is) = Contains-map_from (λ (one : Made). one.edge) (reference_row net table to) edge new in
          let (making, all) = whole in
          let from = making.each one inside in
          subst (IsInRow net table to) (from.is ∙ is) (making.partly.row.derivable from.place from.slot from.weight from.here from.has)

  row_least : (edge : Edge) → IsInRow net table to edge → HasAtMost after edge
  unfolding after
  row_least edge derived = let (making, all) = whole in let met = all_met net table to plan fits sound (settled_row net table to).slots making.partly all edge derived in by met met.slot.why refl
    where
      by : (met : IsMet to (settled_row net table to).slots edge) → (o : Option Why) → met.slot.why ≡ o → HasAtMost (with_made table (reference_row net table to)) edge
      by met None none =
          let (making, all) = whole in
          let old : weight_of table (key_of edge) ≡ Some met.weight = ap (weight_of table) (sym met.of_key) ∙ (sym (making.partly.row.unimproved met.place met.slot met.here none) ∙ met.has) in
          at_most_below (with_made table (reference_row net table to)) table edge (all_lowered-at_most table (map (λ (one : Made). one.edge) (reference_row net table to))) (at_most_from table edge met.weight old met.less)
      by met (Some why) some =
          let (making, all) = whole in
          let settled = is_settled net table to plan fits sound (settled_row net table to).slots making.partly all met.place met.slot met.weight met.here met.has in
          let one : Made = record { edge = edge_in to met.slot met.weight; why = why } in
          let inside : Contains (reference_row net table to) one = making.listed met.place met.slot why met.weight met.here settled some met.has in
          let there : HasAtMost (with_made table (reference_row net table to)) (edge_in to met.slot met.weight) =
          all_lowered-has table (map (λ (one : Made). one.edge) (reference_row net table to)) (edge_in to met.slot met.weight) (Contains-map (λ (one : Made). one.edge) (reference_row net table to) one inside) in
          let (weight, has, less) = at_most_gives (with_made table (reference_row net table to)) (edge_in to met.slot met.weight) there in
          at_most_from (with_made table (reference_row net table to)) edge weight (ap (weight_of (with_made table (reference_row net table to))) (sym met.of_key) ∙ has) (le_then weight met.weight edge.weight less met.less)

  pub row_is_least : IsLeastRow net table to (with_made table (reference_row net table to))
  unfolding after
  row_is_least = record { derivable = row_derivable; least = row_least }

  pub row_derived : (one : Made) → Contains (reference_row net table to) one → IsInRow net table to one.edge
  row_derived one inside =
      let (making, all) = whole in
      let from = making.each one inside in
      subst (IsInRow net table to) from.is (making.partly.row.derivable from.place from.slot from.weight from.here from.has)

  row_ends : (one : Made) → Contains (reference_row net table to) one → one.edge.to ≡ to
  row_ends one inside = let (making, all) = whole in ap (λ (e : Edge). e.to) (sym (making.each one inside).is)

  row_improves : (one : Made) → Contains (reference_row net table to) one → IsBelow table one.edge
  row_improves one inside old has =
      let (making, all) = whole in
      let from = making.each one inside in
      let (weight, is, below) = making.partly.row.improvements from.place from.slot one.why from.here from.why in
      let weights : weight ≡ one.edge.weight = same_weight weight from.weight (sym is ∙ from.has) ∙ ap (λ (e : Edge). e.weight) from.is in
      let key : key_of one.edge ≡ key_in to from.slot = ap key_of (sym from.is) in
      subst (λ (w : ℤ). w <ℤ old) weights (below old (ap (weight_of table) (sym key) ∙ has))

  pub row_is_grounded : AreGrounded net table table (reference_row net table to)
  row_is_grounded = let (making, all) = whole in making.grounded

  once_all : AllPairs (IsApart net table to plan fits sound) (reference_row net table to)
  once_all = let (making, all) = whole in making.once

  in_order_all : AllPairs (IsNotAbove net table to plan fits sound) (reference_row net table to)
  in_order_all = let (making, all) = whole in making.in_order

  pub row_result : IsRowOf net table to (reference_row net table to)
  row_result = record {
    least = row_is_least;
    ends = all_contained (λ (one : Made). one.edge.to ≡ to) (reference_row net table to) row_ends;
    descends = all_contained (λ (one : Made). IsBelow table one.edge) (reference_row net table to) row_improves;
    once = once_all;
    in_order = in_order_all;
  }

pub law_rows_are_least : RowsAreLeast
law_rows_are_least net table to plan fits sound = row_result net table to plan fits sound
