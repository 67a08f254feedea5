-- An order stays one while each negative ordinary edge that comes goes from a later place to an earlier one.
use Rattle.std.proofs.Common.{◌≡◌, ℕ, ◌<◌, ◌≤◌, Bool, true, false, ◌⊎◌, length, Option, Some, None, refl, sym, subst, ◌∙◌, inl, inr, arith}
use Rattle.std.specs.Prelude.{slice_index_or}
use Rattle.net_model.specs.declared.ids.PointId.{PointId}
use Rattle.closure_model.specs.Keys.{Shape}
use Rattle.closure_model.specs.Orders.{goes, lowest_unplaced, cycle_from}
use Rattle.std.specs.List.{All}
use Rattle.closure_model.proofs.OrderLemmas.{law_cycles_are_met, law_orders_exclude_cycles}
use Rattle.closure_model.specs.OrderLaws.{OrdersStay, OrderedTablesArePlaced}

pub law_orders_stay : OrdersStay
law_orders_stay before now order place shape was places descends = record {
  whole = λ point inside. was.whole point (subst (λ (s : Shape). point.0 < s.points) shape inside);
  once = was.once;
  points = subst (λ (s : Shape). All (λ (p : PointId). p.0 < s.points) order) (sym shape) was.points;
  descends = λ i j d up within. by i j d up within (goes now (slice_index_or order i d) (slice_index_or order j d)) refl;
}
  where
    by : (i j : ℕ) (d : PointId) → i ≤ j → j < length order → (b : Bool) → goes now (slice_index_or order i d) (slice_index_or order j d) ≡ b → b ≡ false
    by i j d up within false is = refl
    by i j d up within true is = either (descends (slice_index_or order i d) (slice_index_or order j d) is)
      where
        either : (goes before (slice_index_or order i d) (slice_index_or order j d) ≡ true) ⊎ (place (slice_index_or order j d) < place (slice_index_or order i d)) → true ≡ false
        either (inl old) = sym old ∙ was.descends i j d up within
        either (inr below) =
            let one = places i d (omega arith) in
            let other = places j d within in
            absurd (omega arith)

pub law_ordered_tables_are_placed : OrderedTablesArePlaced
law_ordered_tables_are_placed table order is = by (lowest_unplaced table) refl
  where
    by : (o : Option PointId) → lowest_unplaced table ≡ o → o ≡ None
    by None end = refl
    by (Some first) left = absurd (law_orders_exclude_cycles table order (cycle_from table first) is (law_cycles_are_met table first left))
