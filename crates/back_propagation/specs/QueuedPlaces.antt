-- The queued places, which are still to be settled.
use Rattle.std.specs.Prelude.{◌≡◌, ℕ, ℤ, ◌≤ℤ◌, Bool, true, false, List, ◌∷◌, IsPermutation, slice_get, slice_set, Option, Some, MatchOption}
use Rattle.std.specs.List.{Contains}
use Rattle.closure_model.specs.declared.rows.Slot.{Slot}
use Rattle.closure_model.specs.PrunedRows.{is_live, IsNextLive, IsAllDone}

-- what is queued stands for a live slot that has a weight which is no greater
pub record IsQueueItem (begins : ℕ → Bool) (slots : List Slot) (item : ℤ × ℕ) : Type 0 where
  pub slot : Slot
  pub here : slice_get slots item.1 ≡ Some slot
  pub live : is_live begins item.1 slot ≡ true
  pub weight : ℤ
  pub has : slot.weight ≡ Some weight
  pub less : weight ≤ℤ item.0

-- every live slot that is not settled is queued at its weight
pub record IsQueued (begins : ℕ → Bool) (slots : List Slot) (items : List (ℤ × ℕ)) : Type 0 where
  pub covers : (place : ℕ) (slot : Slot) (weight : ℤ) → slice_get slots place ≡ Some slot → is_live begins place slot ≡ true → slot.settled ≡ false
      → slot.weight ≡ Some weight → Contains items (weight, place)
  pub sound : (item : ℤ × ℕ) → Contains items item → IsQueueItem begins slots item

-- whatever the row is seeded with, what was queued is queued
abbrev pub KeepsQueued : (slots : List Slot) (items : List (ℤ × ℕ)) (after : List Slot) (now : List (ℤ × ℕ)) → Type 0
KeepsQueued slots items after now = (begins : ℕ → Bool) → IsQueued begins slots items → IsQueued begins after now

-- the next slot was found: it is settled next, and when it is settled the others are queued
pub record IsNextSlotFound (begins : ℕ → Bool) (slots : List Slot) (items : List (ℤ × ℕ)) (one : ℤ × ℕ) : Type 0 where
  pub slot : Slot
  pub next : IsNextLive begins slots one.1 slot one.0
  pub rest : IsQueued begins (slice_set slots one.1 (record slot { settled = true })) items

abbrev pub IsNextOrDone : (begins : ℕ → Bool) (slots : List Slot) (items : List (ℤ × ℕ)) → Option (ℤ × ℕ) → Type 0
IsNextOrDone begins slots items found = MatchOption found (IsAllDone begins slots) (IsNextSlotFound begins slots items)

-- the place of a slot was put into the queue at the weight of the slot, if it has one
abbrev pub IsPut : ℕ → Option ℤ → (items now : List (ℤ × ℕ)) → Type 0
IsPut place weight items now = MatchOption weight (now ≡ items) (λ w. IsPermutation ((w, place) ∷ items) now)
