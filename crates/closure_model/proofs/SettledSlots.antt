-- The settling of the next slot: what holds between two settlings holds after it.
use Rattle.std.proofs.Common.{◌≡◌, ◌≢◌, ℕ, ℤ, ◌≤ℤ◌, ◌==◌, Bool, true, false, cond, ◌⊎◌, List, Some, None, refl, ap, sym, subst, ◌∙◌, inl, inr, arith}
use Rattle.std.specs.Prelude.{slice_get, slice_set}
use Rattle.std.specs.List.{Contains}
use Rattle.std.proofs.lemmas.Bool.{eqb-true}
use Rattle.std.proofs.lemmas.Bool.Decides.{nat_tests}
use Rattle.std.proofs.lemmas.Option.{same_Some}
use Rattle.net_model.specs.Network.{Plan, IsPlan}
use Rattle.net_model.specs.declared.ids.PointId.{PointId}
use Rattle.net_model.specs.declared.part.Edge.{Edge}
use Rattle.closure_model.specs.Least.{weight_at}
use Rattle.closure_model.specs.Tables.{Graph, weight_of, IsGraph, IsFor}
use Rattle.closure_model.specs.ReferenceRow.{edge_in, open_weight, IsInRow, consequences, slots_after, improved, IsNextSlot}
use Rattle.closure_model.specs.declared.rows.Made.{Made}
use Rattle.closure_model.specs.declared.rows.Slot.{Slot}
use Rattle.closure_model.specs.declared.rows.Why.{Why}
use Rattle.closure_model.proofs.Weights.{same_weight, le_then, le_of_same}
use Rattle.closure_model.proofs.Consequences.{consequence_is}
use Rattle.closure_model.proofs.Slots.{set_same, set_other, map_set_kept, key_in, IsMet, met_after_all}
use Rattle.closure_model.proofs.RowDerivable.{consequence_in_row, consequence_not_less}
use Rattle.closure_model.proofs.RowRelaxation.{CanBeRelaxed, IsAbove, IsAfter, IsAround, IsRow, relaxes_after, relaxes_saturate}

abbrev pub marked : Slot → Slot
marked slot = record slot { settled = true }

pub open_is : (slot : Slot) (weight : ℤ) → open_weight slot ≡ Some weight → (slot.settled ≡ false) × (slot.weight ≡ Some weight)
open_is slot weight is = by slot.settled refl
  where
    by : (b : Bool) → slot.settled ≡ b → (slot.settled ≡ false) × (slot.weight ≡ Some weight)
    by true settled = let none : open_weight slot ≡ None = ap (λ (b : Bool). cond b None slot.weight) settled in absurd cc
    by false settled = let same : open_weight slot ≡ slot.weight = ap (λ (b : Bool). cond b None slot.weight) settled in (settled, sym same ∙ is)

open_from : (slot : Slot) (weight : ℤ) → slot.settled ≡ false → slot.weight ≡ Some weight → open_weight slot ≡ Some weight
open_from slot weight settled has = ap (λ (b : Bool). cond b None slot.weight) settled ∙ has

pub open_weight_at : (slots : List Slot) (place : ℕ) (slot : Slot) (weight : ℤ) → slice_get slots place ≡ Some slot → slot.settled ≡ false → slot.weight ≡ Some weight → weight_at open_weight slots place ≡ Some weight
open_weight_at slots place slot weight here settled has = rw here (open_from slot weight settled has)

-- the slots after one was marked: that one, and those that were there
pub was_marked : (slots : List Slot) (place : ℕ) (slot : Slot) → slice_get slots place ≡ Some slot → (other : ℕ) (after : Slot) → slice_get (slice_set slots place (marked slot)) other ≡ Some after
    → ((other ≡ place) × (marked slot ≡ after)) ⊎ ((other ≢ place) × (slice_get slots other ≡ Some after))
was_marked slots place slot here other after there = by (other == place) refl
  where
    by : (b : Bool) → (other == place) ≡ b → ((other ≡ place) × (marked slot ≡ after)) ⊎ ((other ≢ place) × (slice_get slots other ≡ Some after))
    by true is =
        let same : other ≡ place = eqb-true other place is in
        let at : slice_get (slice_set slots place (marked slot)) place ≡ Some (marked slot) = set_same slots place slot (marked slot) here in
        let there' : slice_get (slice_set slots place (marked slot)) place ≡ Some after = subst (λ (k : ℕ). slice_get (slice_set slots place (marked slot)) k ≡ Some after) same there in
        inl (same, same_Some (marked slot) after (sym at ∙ there'))
    by false is =
        let apart : other ≢ place = λ same. (let test : (other == place) ≡ true = rw same (grind (arith, nat_tests)) in absurd cc) in
        inr (apart, sym (set_other slots place other (marked slot) apart) ∙ there)

module _ (net : Plan) (table : Graph) (to : PointId) (plan : IsPlan net) (fits : IsFor net table) (sound : IsGraph table) where
  -- what holds between two settlings
  pub record IsPartly (slots : List Slot) : Type 0 where
    pub row : IsRow net table to plan fits sound slots
    pub has : (place : ℕ) (slot : Slot) → slice_get slots place ≡ Some slot → slot.settled ≡ true → (weight : ℤ) × (slot.weight ≡ Some weight)
    pub ordered : (place other : ℕ) (one two : Slot) (weight more : ℤ) → slice_get slots place ≡ Some one → slice_get slots other ≡ Some two → one.settled ≡ true → one.weight ≡ Some weight → two.settled ≡ false → two.weight ≡ Some more
        → weight ≤ℤ more
    pub closed : (place : ℕ) (slot : Slot) (weight : ℤ) → slice_get slots place ≡ Some slot → slot.settled ≡ true → slot.weight ≡ Some weight → (made : Made) → Contains (consequences net table (edge_in to slot weight)) made
        → IsMet to slots made.edge

  module _ (slots : List Slot) (place : ℕ) (slot : Slot) (low : ℤ) (here : slice_get slots place ≡ Some slot) (is_open : slot.settled ≡ false) (has : slot.weight ≡ Some low) where
    abbrev pub mark : List Slot
    mark = slice_set slots place (marked slot)

    met_marked : (edge : Edge) → IsMet to slots edge → IsMet to mark edge
    met_marked edge met = by (met.place == place) refl
      where
        by : (b : Bool) → (met.place == place) ≡ b → IsMet to mark edge
        by true is =
            let same : met.place ≡ place = eqb-true met.place place is in
            let at : slice_get slots place ≡ Some met.slot = subst (λ (k : ℕ). slice_get slots k ≡ Some met.slot) same met.here in
            let one : slot ≡ met.slot = same_Some slot met.slot (sym here ∙ at) in
            record {
              place = place;
              slot = marked slot;
              weight = met.weight;
              here = set_same slots place slot (marked slot) here;
              of_key = ap (key_in to) one ∙ met.of_key;
              has = ap (λ (s : Slot). s.weight) one ∙ met.has;
              less = met.less;
            }
        by false is =
            let apart : met.place ≢ place = λ same. (let test : (met.place == place) ≡ true = rw same (grind (arith, nat_tests)) in absurd cc) in
            record {
              place = met.place;
              slot = met.slot;
              weight = met.weight;
              here = set_other slots place met.place (marked slot) apart ∙ met.here;
              of_key = met.of_key;
              has = met.has;
              less = met.less;
            }

    mark_derivable : IsRow net table to plan fits sound slots → (other : ℕ) (after : Slot) (weight : ℤ) → slice_get mark other ≡ Some after → after.weight ≡ Some weight → IsInRow net table to (edge_in to after weight)
    mark_derivable row other after weight there is = by (was_marked slots place slot here other after there)
      where
        by : ((other ≡ place) × (marked slot ≡ after)) ⊎ ((other ≢ place) × (slice_get slots other ≡ Some after)) → IsInRow net table to (edge_in to after weight)
        by (inl (same, one)) = subst (λ (s : Slot). IsInRow net table to (edge_in to s weight)) one (row.derivable place slot weight here (ap (λ (s : Slot). s.weight) one ∙ is))
        by (inr (apart, at)) = row.derivable other after weight at is

    mark_unimproved : IsRow net table to plan fits sound slots → (other : ℕ) (after : Slot) → slice_get mark other ≡ Some after → after.why ≡ None → after.weight ≡ weight_of table (key_in to after)
    mark_unimproved row other after there none = by (was_marked slots place slot here other after there)
      where
        by : ((other ≡ place) × (marked slot ≡ after)) ⊎ ((other ≢ place) × (slice_get slots other ≡ Some after)) → after.weight ≡ weight_of table (key_in to after)
        by (inl (same, one)) = ap (λ (s : Slot). s.weight) (sym one) ∙ row.unimproved place slot here (ap (λ (s : Slot). s.why) one ∙ none) ∙ ap (λ (s : Slot). weight_of table (key_in to s)) one
        by (inr (apart, at)) = row.unimproved other after at none

    mark_improved : IsRow net table to plan fits sound slots → (other : ℕ) (after : Slot) (why : Why) → slice_get mark other ≡ Some after → after.why ≡ Some why
        → (weight : ℤ) × (after.weight ≡ Some weight) × IsAbove net table to plan fits sound (key_in to after) weight
    mark_improved row other after why there some = by (was_marked slots place slot here other after there)
      where
        by : ((other ≡ place) × (marked slot ≡ after)) ⊎ ((other ≢ place) × (slice_get slots other ≡ Some after)) → (weight : ℤ) × (after.weight ≡ Some weight) × IsAbove net table to plan fits sound (key_in to after) weight
        by (inl (same, one)) =
            let (weight, is, improved) = row.improvements place slot why here (ap (λ (s : Slot). s.why) one ∙ some) in
            (weight, ap (λ (s : Slot). s.weight) (sym one) ∙ is, subst (λ (s : Slot). IsAbove net table to plan fits sound (key_in to s) weight) one improved)
        by (inr (apart, at)) = row.improvements other after why at some

    mark_row : IsRow net table to plan fits sound slots → IsRow net table to plan fits sound mark
    mark_row row = record {
      keys = map_set_kept (key_in to) slots place slot (marked slot) here refl ∙ row.keys;
      derivable = mark_derivable row;
      table_met = λ edge is ends. met_marked edge (row.table_met edge is ends);
      unimproved = mark_unimproved row;
      improvements = mark_improved row;
    }

    mark_around : IsPartly slots → IsNextSlot slots (place, low) → IsAround net table to plan fits sound low mark
    mark_around partly next = record { has = has_weight; below = below; from_there = from_there }
      where
        has_weight : (other : ℕ) (after : Slot) → slice_get mark other ≡ Some after → after.settled ≡ true → (weight : ℤ) × (after.weight ≡ Some weight)
        has_weight other after there is = by (was_marked slots place slot here other after there)
          where
            by : ((other ≡ place) × (marked slot ≡ after)) ⊎ ((other ≢ place) × (slice_get slots other ≡ Some after)) → (weight : ℤ) × (after.weight ≡ Some weight)
            by (inl (same, one)) = (low, ap (λ (s : Slot). s.weight) (sym one) ∙ has)
            by (inr (apart, at)) = partly.has other after at is

        below : (other : ℕ) (after : Slot) (weight : ℤ) → slice_get mark other ≡ Some after → after.settled ≡ true → after.weight ≡ Some weight → weight ≤ℤ low
        below other after weight there is has_it = by (was_marked slots place slot here other after there)
          where
            by : ((other ≡ place) × (marked slot ≡ after)) ⊎ ((other ≢ place) × (slice_get slots other ≡ Some after)) → weight ≤ℤ low
            by (inl (same, one)) = le_of_same weight low (same_weight weight low (sym has_it ∙ (ap (λ (s : Slot). s.weight) (sym one) ∙ has)))
            by (inr (apart, at)) = partly.ordered other place after slot weight low at here is has_it is_open has

        from_there : (other : ℕ) (after : Slot) (weight : ℤ) → slice_get mark other ≡ Some after → after.settled ≡ false → after.weight ≡ Some weight → low ≤ℤ weight
        from_there other after weight there is has_it = by (was_marked slots place slot here other after there)
          where
            by : ((other ≡ place) × (marked slot ≡ after)) ⊎ ((other ≢ place) × (slice_get slots other ≡ Some after)) → low ≤ℤ weight
            by (inl (same, one)) = let settled : true ≡ after.settled = ap (λ (s : Slot). s.settled) one in absurd cc
            by (inr (apart, at)) = next.least other weight (open_weight_at slots other after weight at is has_it)

    -- the premise of the consequences
    abbrev settled_edge : Edge
    settled_edge = edge_in to slot low

    pub can_be_relaxed : IsRow net table to plan fits sound slots → (made : Made) → Contains (consequences net table settled_edge) made → CanBeRelaxed net table to plan fits sound low made
    can_be_relaxed row made inside =
        let is = consequence_is net table settled_edge made inside in
        (consequence_in_row net table to plan fits sound settled_edge made (row.derivable place slot low here has) is, consequence_not_less net table to plan fits sound settled_edge made is)

    pub settling_after : IsPartly slots → IsNextSlot slots (place, low) → IsAfter net table to plan fits sound low mark (slots_after net table to slots place slot low)
    settling_after partly next = relaxes_after net table to plan fits sound low (consequences net table settled_edge) mark (can_be_relaxed partly.row) (mark_row partly.row) (mark_around partly next)

    settling_closed : IsPartly slots → (next : IsNextSlot slots (place, low)) → (other : ℕ) (after : Slot) (weight : ℤ) → slice_get (slots_after net table to slots place slot low) other ≡ Some after → after.settled ≡ true
        → after.weight ≡ Some weight
        → (made : Made) → Contains (consequences net table (edge_in to after weight)) made → IsMet to (slots_after net table to slots place slot low) made.edge
    settling_closed partly next other after weight there is has_it made inside = by (was_marked slots place slot here other after ((settling_after partly next).back other after there is))
      where
        by : ((other ≡ place) × (marked slot ≡ after)) ⊎ ((other ≢ place) × (slice_get slots other ≡ Some after)) → IsMet to (slots_after net table to slots place slot low) made.edge
        by (inl (same, one)) =
            let weights : weight ≡ low = same_weight weight low (sym has_it ∙ (ap (λ (s : Slot). s.weight) (sym one) ∙ has)) in
            let edges : edge_in to after weight ≡ settled_edge = ap (λ (s : Slot). edge_in to s weight) (sym one) ∙ ap (edge_in to slot) weights in
            relaxes_saturate net table to plan fits sound low (consequences net table settled_edge) mark (can_be_relaxed partly.row) (mark_row partly.row) made (subst (λ (e : Edge). Contains (consequences net table e) made) edges inside)
        by (inr (apart, at)) = met_after_all to mark (consequences net table settled_edge) made.edge (met_marked made.edge (partly.closed other after weight at is has_it made inside))

    pub settling_partly : IsPartly slots → IsNextSlot slots (place, low) → IsPartly (slots_after net table to slots place slot low)
    settling_partly partly next =
        let after = settling_after partly next in
        record {
          row = after.row;
          has = after.around.has;
          ordered = λ one_place two_place one two weight more one_here two_here one_is one_has two_is two_has.
              le_then weight low more (after.around.below one_place one weight one_here one_is one_has) (after.around.from_there two_place two more two_here two_is two_has);
          closed = settling_closed partly next;
        }
