-- Each settling leaves one slot fewer to settle, so as many steps as there are slots settle all that can be.
use Rattle.std.proofs.Common.{◌≡◌, ℕ, zero, suc, ◌+◌, ◌≤◌, ℤ, Bool, true, false, cond, List, [], ◌∷◌, ◌++◌, length, fold, Option, Some, None, refl, ap, sym, ◌∙◌, arith}
use Rattle.std.specs.Prelude.{slice_get, slice_set}
use Rattle.std.specs.Option.{option_map_or, option_and_then}
use Rattle.net_model.specs.Network.{Plan}
use Rattle.net_model.specs.declared.ids.PointId.{PointId}
use Rattle.closure_model.specs.Least.{weight_at}
use Rattle.closure_model.specs.Tables.{Graph}
use Rattle.closure_model.specs.ReferenceRow.{relaxed, edge_in, open_weight, consequences, slots_after, Making, improved, settled_at, settled_times, next_slot}
use Rattle.closure_model.specs.declared.rows.Made.{Made}
use Rattle.closure_model.specs.declared.rows.Slot.{Slot}
use Rattle.closure_model.proofs.Slots.{relaxed_one, change_settled, relaxed_change}

-- how many slots are not settled
abbrev pub unsettled : List Slot → ℕ
unsettled [] = 0
unsettled (slot ∷ slots) = cond slot.settled 0 1 + unsettled slots

pub unsettled-set : (slots : List Slot) (k : ℕ) (old new : Slot) → slice_get slots k ≡ Some old → old.settled ≡ false → new.settled ≡ true → unsettled (slice_set slots k new) + 1 ≡ unsettled slots
unsettled-set [] k old new here was is = absurd cc
unsettled-set (x ∷ xs) zero old new here was is =
    let same : x ≡ old = cc in
    let before : cond {A = ℕ} x.settled 0 1 ≡ 1 = ap (λ (b : Bool). cond {A = ℕ} b 0 1) (ap (λ (s : Slot). s.settled) same ∙ was) in
    let after : cond {A = ℕ} new.settled 0 1 ≡ 0 = ap (λ (b : Bool). cond {A = ℕ} b 0 1) is in
    omega arith
unsettled-set (x ∷ xs) (suc k) old new here was is = let rest = unsettled-set xs k old new here was is in omega arith

pub unsettled-relaxed : (slots : List Slot) (made : Made) → unsettled (relaxed slots made) ≡ unsettled slots
unsettled-relaxed [] made = refl
unsettled-relaxed (x ∷ xs) made =
    let rest = unsettled-relaxed xs made in
    let here : (relaxed_one made x).settled ≡ x.settled = change_settled made x (relaxed_one made x) (relaxed_change made x) in
    let same : cond {A = ℕ} (relaxed_one made x).settled 0 1 ≡ cond {A = ℕ} x.settled 0 1 = ap (λ (b : Bool). cond {A = ℕ} b 0 1) here in
    omega arith

pub unsettled-relaxes : (list : List Made) (slots : List Slot) → unsettled (fold relaxed slots list) ≡ unsettled slots
unsettled-relaxes [] slots = refl
unsettled-relaxes (made ∷ list) slots = unsettled-relaxes list (relaxed slots made) ∙ unsettled-relaxed slots made

pub length-unsettled : (slots : List Slot) → unsettled slots ≤ length slots
length-unsettled [] = omega arith
length-unsettled (x ∷ xs) = by x.settled (length-unsettled xs)
  where
    by : (b : Bool) → unsettled xs ≤ length xs → cond b 0 1 + unsettled xs ≤ suc (length xs)
    by true rest = omega arith
    by false rest = omega arith

-- the slot that is settled next
pub record IsSlotThere (slots : List Slot) (next : ℕ × ℤ) : Type 0 where
  pub slot : Slot
  pub here : slice_get slots next.0 ≡ Some slot
  pub is_open : slot.settled ≡ false
  pub has : slot.weight ≡ Some next.1

pub slot_there : (slots : List Slot) (next : ℕ × ℤ) → weight_at open_weight slots next.0 ≡ Some next.1 → IsSlotThere slots next
slot_there slots next is = by (slice_get slots next.0) refl is
  where
    open_parts : (slot : Slot) → slice_get slots next.0 ≡ Some slot → (b : Bool) → slot.settled ≡ b → open_weight slot ≡ Some next.1 → IsSlotThere slots next
    open_parts slot here true settled opens = let none : open_weight slot ≡ None = ap (λ (b : Bool). cond b None slot.weight) settled in absurd cc
    open_parts slot here false settled opens = record { slot = slot; here = here; is_open = settled; has = sym (ap (λ (b : Bool). cond b None slot.weight) settled) ∙ opens }

    by : (o : Option Slot) → slice_get slots next.0 ≡ o → option_and_then open_weight o ≡ Some next.1 → IsSlotThere slots next
    by None here opens = absurd cc
    by (Some slot) here opens = open_parts slot here slot.settled refl opens

module _ (net : Plan) (table : Graph) (to : PointId) where
  -- the row after a slot was settled
  abbrev pub after_slot : Making → ℕ × ℤ → Slot → Making
  after_slot making next slot = record { slots = slots_after net table to making.slots next.0 slot next.1; made = making.made ++ improved to slot next.1 }

  pub settled_at_slot : (making : Making) (next : ℕ × ℤ) (slot : Slot) → slice_get making.slots next.0 ≡ Some slot → settled_at net table to making next ≡ after_slot making next slot
  settled_at_slot making next slot here = rw here refl

  pub unsettled-after : (making : Making) (next : ℕ × ℤ) (slot : Slot) → slice_get making.slots next.0 ≡ Some slot → slot.settled ≡ false → unsettled (after_slot making next slot).slots + 1 ≡ unsettled making.slots
  unsettled-after making next slot here is_open =
      let relaxes = unsettled-relaxes (consequences net table (edge_in to slot next.1)) (slice_set making.slots next.0 (record slot { settled = true })) in
      let marked = unsettled-set making.slots next.0 slot (record slot { settled = true }) here is_open refl in
      omega arith

  pub settled_times-none : (times : ℕ) (making : Making) → next_slot making.slots ≡ None → settled_times net table to times making ≡ making
  settled_times-none zero making none = refl
  settled_times-none (suc times) making none = ap (λ (o : Option (ℕ × ℤ)). option_map_or (λ next. settled_times net table to times (settled_at net table to making next)) o making) none

  pub settled_times-some : (times : ℕ) (making : Making) (next : ℕ × ℤ) (slot : Slot) → next_slot making.slots ≡ Some next → slice_get making.slots next.0 ≡ Some slot
      → settled_times net table to (suc times) making ≡ settled_times net table to times (after_slot making next slot)
  settled_times-some times making next slot some here = rw some (ap (settled_times net table to times) (settled_at_slot making next slot here))
