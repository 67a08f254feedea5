-- A pruned row: a row that is made from what can still change it alone. Of the keys that have not improved, only those from which something
-- unsaturated follows are settled, and only unsaturated edges need be relaxed. An edge that follows is unsaturated if the table lacks its
-- key or has it at a greater weight.
use Rattle.std.specs.Prelude.{◌≡◌, ℕ, ℤ, ◌≤ℤ◌, ◌<ℤ◌, ◌<◌, ◌||◌, Bool, true, false, List, [], ◌∷◌, fold, slice_get, slice_set, Some, is_some}
use Rattle.closure_model.specs.ReferenceRow.{relaxed}
use Rattle.closure_model.specs.Tables.{Graph, HasAtMost}
use Rattle.closure_model.specs.declared.rows.Made.{Made}
use Rattle.closure_model.specs.declared.rows.Slot.{Slot}

-- a list of what follows, and the same list without some of it that is saturated: the table has it at a weight that is no greater
pub data IsThinned (table : Graph) : (all few : List Made) → Type 0 where
  at_end : IsThinned table [] []
  keeps : (made : Made) (all few : List Made) → IsThinned table all few → IsThinned table (made ∷ all) (made ∷ few)
  leaves : (made : Made) (all few : List Made) → HasAtMost table made.edge → IsThinned table all few → IsThinned table (made ∷ all) few

-- a slot that can still change its row: it improved, or its place is a seed of the row
abbrev pub is_live : (ℕ → Bool) → ℕ → Slot → Bool
is_live begins place slot = is_some slot.why || begins place

-- the live slot that is settled next: of those that are not settled the first of least weight
pub record IsNextLive (begins : ℕ → Bool) (slots : List Slot) (place : ℕ) (slot : Slot) (weight : ℤ) : Type 0 where
  pub here : slice_get slots place ≡ Some slot
  pub live : is_live begins place slot ≡ true
  pub open_slot : slot.settled ≡ false
  pub has : slot.weight ≡ Some weight
  pub least : (other : ℕ) (one : Slot) (w : ℤ) → slice_get slots other ≡ Some one → is_live begins other one ≡ true → one.settled ≡ false → one.weight ≡ Some w
      → weight ≤ℤ w
  pub first : (other : ℕ) (one : Slot) (w : ℤ) → slice_get slots other ≡ Some one → is_live begins other one ≡ true → one.settled ≡ false → one.weight ≡ Some w
      → other < place → weight <ℤ w

-- no live slot with a weight is left
abbrev pub IsAllDone : (ℕ → Bool) → List Slot → Type 0
IsAllDone begins slots = (place : ℕ) (slot : Slot) (w : ℤ) → slice_get slots place ≡ Some slot → is_live begins place slot ≡ true → slot.weight ≡ Some w
    → slot.settled ≡ true

-- the slots after a live one was settled and these edges were relaxed
abbrev pub pruned_after : List Slot → ℕ → Slot → List Made → List Slot
pruned_after slots place slot few = fold relaxed (slice_set slots place (record slot { settled = true })) few
