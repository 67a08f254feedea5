-- What relaxing an edge does to the slots of a row: a slot takes it or stays, and whatever was saturated in the row stays so.
use Rattle.std.proofs.Common.{◌≡◌, ◌≢◌, ℕ, zero, suc, ℤ, ◌≤ℤ◌, ◌<ℤ◌, ◌==◌, Bool, true, false, cond, List, [], ◌∷◌, map, fold, Option, Some, None, refl, ap, sym, subst, ◌∙◌, arith}
use Rattle.std.specs.Prelude.{slice_get, slice_set, int_lt}
use Rattle.std.specs.Option.{option_map, option_map_or}
use Rattle.std.specs.List.{Contains}
use Rattle.std.proofs.lemmas.Bool.{eqb-true, and_parts}
use Rattle.std.proofs.lemmas.Bool.Decides.{nat_tests}
use Rattle.std.proofs.lemmas.Option.{slice_get-map, same_Some}
use Rattle.net_model.specs.declared.ids.LinkId.{LinkId}
use Rattle.net_model.specs.declared.ids.PointId.{PointId}
use Rattle.net_model.specs.declared.part.Edge.{Edge}
use Rattle.closure_model.specs.Keys.{Key, key_of, row_keys, Shape, IsKey}
use Rattle.closure_model.specs.ReferenceRow.{same_label, is_slot_of, has_above, taken, relaxed}
use Rattle.closure_model.specs.declared.rows.Made.{Made}
use Rattle.closure_model.specs.declared.rows.Slot.{Slot}
use Rattle.closure_model.proofs.KeyLists.{row_keys_whole}
use Rattle.closure_model.proofs.BaseLemmas.{slice_get-contained}
use Rattle.closure_model.proofs.Weights.{lt_is, lt_is_not, lt_is_le, le_then, le_refl}

-- ---- lists
pub set_same : {X : Type 0} (xs : List X) (k : ℕ) (old new : X) → slice_get xs k ≡ Some old → slice_get (slice_set xs k new) k ≡ Some new
set_same [] k old new here = absurd cc
set_same (x ∷ xs) zero old new here = refl
set_same (x ∷ xs) (suc k) old new here = set_same xs k old new here

pub set_other : {X : Type 0} (xs : List X) (k other : ℕ) (new : X) → other ≢ k → slice_get (slice_set xs k new) other ≡ slice_get xs other
set_other [] k other new apart = refl
set_other (x ∷ xs) zero zero new apart = absurd (apart refl)
set_other (x ∷ xs) zero (suc other) new apart = refl
set_other (x ∷ xs) (suc k) zero new apart = refl
set_other (x ∷ xs) (suc k) (suc other) new apart = set_other xs k other new (λ same. apart (ap suc same))

pub map_set_kept : {X Y : Type 0} (f : X → Y) (xs : List X) (k : ℕ) (old new : X) → slice_get xs k ≡ Some old → f new ≡ f old → map f (slice_set xs k new) ≡ map f xs
map_set_kept f [] k old new here same = refl
map_set_kept f (x ∷ xs) zero old new here same = let is : x ≡ old = cc in ap (λ y. y ∷ map f xs) (same ∙ sym (ap f is))
map_set_kept f (x ∷ xs) (suc k) old new here same = ap (λ ys. f x ∷ ys) (map_set_kept f xs k old new here same)

pub map_map_kept : {X Y : Type 0} (f : X → Y) (g : X → X) → ((x : X) → f (g x) ≡ f x) → (xs : List X) → map f (map g xs) ≡ map f xs
map_map_kept f g same [] = refl
map_map_kept f g same (x ∷ xs) = let here = same x in let rest = map_map_kept f g same xs in λ i. here i ∷ rest i

pub some_of_map : {X Y : Type 0} (f : X → Y) (o : Option X) (y : Y) → option_map f o ≡ Some y → (x : X) × (o ≡ Some x) × (f x ≡ y)
some_of_map f None y is = absurd cc
some_of_map f (Some x) y is = (x, refl, same_Some (f x) y is)

-- ---- keys of slots
abbrev pub key_in : PointId → Slot → Key
key_in to slot = record { to = to; from = slot.from; label = slot.label }

pub same_label_is : (one other : Option LinkId) → same_label one other ≡ true → one ≡ other
same_label_is None None same = refl
same_label_is None (Some label) same = absurd cc
same_label_is (Some label) None same = absurd cc
same_label_is (Some one) (Some other) same = ap (λ (k : ℕ). Some (record { 0 = k })) (eqb-true one.0 other.0 same)

pub same_label_itself : (one : Option LinkId) → same_label one one ≡ true
same_label_itself None = refl
same_label_itself (Some label) = grind (arith, nat_tests)

pub slot_of_key : (to : PointId) (edge : Edge) (slot : Slot) → edge.to ≡ to → is_slot_of edge slot ≡ true → key_in to slot ≡ key_of edge
slot_of_key to edge slot ends is =
    let (froms, labels) = and_parts (edge.from.0 == slot.from.0) (same_label edge.label slot.label) is in
    let from : slot.from ≡ edge.from = ap (λ (k : ℕ). record { 0 = k }) (sym (eqb-true edge.from.0 slot.from.0 froms)) in
    let label : slot.label ≡ edge.label = sym (same_label_is edge.label slot.label labels) in
    λ i. record { to = sym ends i; from = from i; label = label i }

pub key_of_slot : (to : PointId) (edge : Edge) (slot : Slot) → key_in to slot ≡ key_of edge → is_slot_of edge slot ≡ true
key_of_slot to edge slot same =
    let from : slot.from.0 ≡ edge.from.0 = ap (λ (k : Key). k.from.0) same in
    let label : slot.label ≡ edge.label = ap (λ (k : Key). k.label) same in
    let froms : (edge.from.0 == slot.from.0) ≡ true = let turned = sym from in grind (arith, nat_tests) in
    let labels : same_label edge.label slot.label ≡ true = rw label (same_label_itself edge.label) in
    rw froms labels

-- ---- one relaxation
-- what a relaxation makes of a slot
pub data Change (made : Made) (slot after : Slot) : Type 0 where
  stays : slot ≡ after → (is_slot_of made.edge slot ≡ true → has_above slot made.edge.weight ≡ false) → Change made slot after
  takes : is_slot_of made.edge slot ≡ true → has_above slot made.edge.weight ≡ true → record slot { weight = Some made.edge.weight; why = Some made.why } ≡ after → Change made slot after

abbrev pub relaxed_one : Made → Slot → Slot
relaxed_one made slot = cond (is_slot_of made.edge slot) (taken made slot) slot

pub relaxed_change : (made : Made) (slot : Slot) → Change made slot (relaxed_one made slot)
relaxed_change made slot = by (is_slot_of made.edge slot) refl (has_above slot made.edge.weight) refl
  where
    by : (b : Bool) → is_slot_of made.edge slot ≡ b → (c : Bool) → has_above slot made.edge.weight ≡ c → Change made slot (cond b (cond c (record slot { weight = Some made.edge.weight; why = Some made.why }) slot) slot)
    by true is true above = takes is above refl
    by true is false above = stays refl (λ here. above)
    by false is true above = stays refl (λ here. absurd cc)
    by false is false above = stays refl (λ here. above)

pub relaxed_at : (slots : List Slot) (made : Made) (place : ℕ) (slot : Slot) → slice_get slots place ≡ Some slot → slice_get (relaxed slots made) place ≡ Some (relaxed_one made slot)
relaxed_at slots made place slot here = slice_get-map (relaxed_one made) slots place ∙ ap (option_map (relaxed_one made)) here

-- a slot after a relaxation, and the slot that it was
pub record WasSlot (slots : List Slot) (made : Made) (place : ℕ) (after : Slot) : Type 0 where
  pub slot : Slot
  pub here : slice_get slots place ≡ Some slot
  pub change : Change made slot after

pub was_slot : (slots : List Slot) (made : Made) (place : ℕ) (after : Slot) → slice_get (relaxed slots made) place ≡ Some after → WasSlot slots made place after
was_slot slots made place after there =
    let (slot, here, is) = some_of_map (relaxed_one made) (slice_get slots place) after (sym (slice_get-map (relaxed_one made) slots place) ∙ there) in
    record { slot = slot; here = here; change = subst (Change made slot) is (relaxed_change made slot) }

-- the slot at a place after a relaxation
pub record IsSlotAfter (slots : List Slot) (made : Made) (place : ℕ) (slot : Slot) : Type 0 where
  pub after : Slot
  pub there : slice_get (relaxed slots made) place ≡ Some after
  pub change : Change made slot after

pub slot_after : (slots : List Slot) (made : Made) (place : ℕ) (slot : Slot) → slice_get slots place ≡ Some slot → IsSlotAfter slots made place slot
slot_after slots made place slot here = record { after = relaxed_one made slot; there = relaxed_at slots made place slot here; change = relaxed_change made slot }

-- a slot keeps its key, and whether it is settled
pub change_from : (made : Made) (slot after : Slot) → Change made slot after → after.from ≡ slot.from
change_from made slot after (stays is not) = ap (λ (s : Slot). s.from) (sym is)
change_from made slot after (takes of above is) = ap (λ (s : Slot). s.from) (sym is)

pub change_label : (made : Made) (slot after : Slot) → Change made slot after → after.label ≡ slot.label
change_label made slot after (stays is not) = ap (λ (s : Slot). s.label) (sym is)
change_label made slot after (takes of above is) = ap (λ (s : Slot). s.label) (sym is)

pub change_settled : (made : Made) (slot after : Slot) → Change made slot after → after.settled ≡ slot.settled
change_settled made slot after (stays is not) = ap (λ (s : Slot). s.settled) (sym is)
change_settled made slot after (takes of above is) = ap (λ (s : Slot). s.settled) (sym is)

pub change_key : (to : PointId) (made : Made) (slot after : Slot) → Change made slot after → key_in to after ≡ key_in to slot
change_key to made slot after change =
    let from = change_from made slot after change in
    let label = change_label made slot after change in
    λ i. record { to = to; from = from i; label = label i }

pub not_above : (slot : Slot) (weight : ℤ) → has_above slot weight ≡ false → (old : ℤ) × (slot.weight ≡ Some old) × (old ≤ℤ weight)
not_above slot weight not = by slot.weight refl not
  where
    by : (o : Option ℤ) → slot.weight ≡ o → option_map_or (λ old. int_lt weight old) o true ≡ false → (old : ℤ) × (slot.weight ≡ Some old) × (old ≤ℤ weight)
    by None none not = absurd cc
    by (Some old) some not = (old, some, lt_is_not weight old not)

pub above : (slot : Slot) (weight old : ℤ) → has_above slot weight ≡ true → slot.weight ≡ Some old → weight <ℤ old
above slot weight old is has = let test : int_lt weight old ≡ true = rw has at is in lt_is weight old test

-- ---- edges that are saturated in a row
-- the slot of the key of an edge has a weight that is no greater
pub record IsMet (to : PointId) (slots : List Slot) (edge : Edge) : Type 0 where
  pub place : ℕ
  pub slot : Slot
  pub weight : ℤ
  pub here : slice_get slots place ≡ Some slot
  pub of_key : key_in to slot ≡ key_of edge
  pub has : slot.weight ≡ Some weight
  pub less : weight ≤ℤ edge.weight

pub met_after : (to : PointId) (slots : List Slot) (made : Made) (edge : Edge) → IsMet to slots edge → IsMet to (relaxed slots made) edge
met_after to slots made edge met = let next = slot_after slots made met.place met.slot met.here in by next.after next.there next.change
  where
    by : (after : Slot) → slice_get (relaxed slots made) met.place ≡ Some after → Change made met.slot after → IsMet to (relaxed slots made) edge
    by after there (stays is not) = record {
      place = met.place;
      slot = after;
      weight = met.weight;
      here = there;
      of_key = change_key to made met.slot after (stays is not) ∙ met.of_key;
      has = ap (λ (s : Slot). s.weight) (sym is) ∙ met.has;
      less = met.less;
    }
    by after there (takes of is_above is) = record {
      place = met.place;
      slot = after;
      weight = made.edge.weight;
      here = there;
      of_key = change_key to made met.slot after (takes of is_above is) ∙ met.of_key;
      has = ap (λ (s : Slot). s.weight) (sym is);
      less = le_then made.edge.weight met.weight edge.weight (lt_is_le made.edge.weight met.weight (above met.slot made.edge.weight met.weight is_above met.has)) met.less;
    }

pub met_after_all : (to : PointId) (slots : List Slot) (list : List Made) (edge : Edge) → IsMet to slots edge → IsMet to (fold relaxed slots list) edge
met_after_all to slots [] edge met = met
met_after_all to slots (made ∷ list) edge met = met_after_all to (relaxed slots made) list edge (met_after to slots made edge met)

-- what has a key is saturated at once
pub relax_saturates : (to : PointId) (shape : Shape) (slots : List Slot) (made : Made) → map (key_in to) slots ≡ row_keys shape to → IsKey shape (key_of made.edge) → made.edge.to ≡ to → IsMet to (relaxed slots made) made.edge
relax_saturates to shape slots made keys known ends =
    let inside : Contains (row_keys shape to) (key_of made.edge) = subst (λ (p : PointId). Contains (row_keys shape p) (key_of made.edge)) ends (row_keys_whole shape (key_of made.edge) known) in
    let (place, at) = slice_get-contained (row_keys shape to) (key_of made.edge) inside in
    let (slot, here, of_key) = some_of_map (key_in to) (slice_get slots place) (key_of made.edge) (sym (slice_get-map (key_in to) slots place) ∙ ap (λ (ks : List Key). slice_get ks place) keys ∙ at) in
    let next = slot_after slots made place slot here in
    by place slot of_key next.after next.there next.change
  where
    by : (place : ℕ) (slot : Slot) → key_in to slot ≡ key_of made.edge → (after : Slot) → slice_get (relaxed slots made) place ≡ Some after → Change made slot after → IsMet to (relaxed slots made) made.edge
    by place slot of_key after there (stays is not) =
        let (old, has, less) = not_above slot made.edge.weight (not (key_of_slot to made.edge slot of_key)) in
        record {
          place = place;
          slot = after;
          weight = old;
          here = there;
          of_key = change_key to made slot after (stays is not) ∙ of_key;
          has = ap (λ (s : Slot). s.weight) (sym is) ∙ has;
          less = less;
        }
    by place slot of_key after there (takes of is_above is) = record {
      place = place;
      slot = after;
      weight = made.edge.weight;
      here = there;
      of_key = change_key to made slot after (takes of is_above is) ∙ of_key;
      has = ap (λ (s : Slot). s.weight) (sym is);
      less = le_refl made.edge.weight;
    }

pub relaxed_keys : (to : PointId) (slots : List Slot) (made : Made) → map (key_in to) (relaxed slots made) ≡ map (key_in to) slots
relaxed_keys to slots made = map_map_kept (key_in to) (relaxed_one made) (λ slot. change_key to made slot (relaxed_one made slot) (relaxed_change made slot)) slots
