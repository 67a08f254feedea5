-- Lists from which one item is removed: the others stay in their order.
use Rattle.std.proofs.Common.{◌≡◌, ◌≢◌, ℕ, zero, suc, ◌-◌, ◌≤◌, ◌<◌, Bool, true, false, ◌⊎◌, inl, inr, List, [], ◌∷◌, ◌++◌, length, Some, refl, ap, sym, ◌∙◌, arith}
use Rattle.std.specs.Prelude.{slice_get, nat_lt, if◌then◌else◌}
use Rattle.std.specs.List.{remove}
use Rattle.std.proofs.lemmas.Bool.{cases_lt}
use borrow.Author.Tests.{ltb-true, ltb-false}

module _ {X : Type 0} where
  pub removed_before : (xs : List X) (i k : ℕ) → k < i → slice_get (remove xs i) k ≡ slice_get xs k
  removed_before xs zero k less = absurd (omega arith)
  removed_before [] (suc i) k less = refl
  removed_before (x ∷ xs) (suc i) zero less = refl
  removed_before (x ∷ xs) (suc i) (suc k) less = removed_before xs i k (omega arith)

  pub removed_after : (xs : List X) (i k : ℕ) → i ≤ k → slice_get (remove xs i) k ≡ slice_get xs (suc k)
  removed_after [] zero k least = refl
  removed_after [] (suc i) k least = refl
  removed_after (x ∷ xs) zero k least = refl
  removed_after (x ∷ xs) (suc i) zero least = absurd (omega arith)
  removed_after (x ∷ xs) (suc i) (suc k) least = removed_after xs i k (omega arith)

  -- an item that is not removed, at its place afterwards
  pub stays_at : (xs : List X) (i k : ℕ) → k ≢ i → slice_get (remove xs i) (if nat_lt i k then k - 1 else k) ≡ slice_get xs k
  stays_at xs i k apart = by (nat_lt i k) refl
    where
      by : (b : Bool) → nat_lt i k ≡ b → slice_get (remove xs i) (if b then k - 1 else k) ≡ slice_get xs k
      by true past =
          let next : suc (k - 1) ≡ k = omega (arith, ltb-true i k past) in
          removed_after xs i (k - 1) (omega (arith, ltb-true i k past)) ∙ ap (slice_get xs) next
      by false within = removed_before xs i k (omega (arith, ltb-false i k within))

  -- an item that stands there stood before, and was not the one
  pub stood_at : (xs : List X) (i k : ℕ) (x : X) → slice_get (remove xs i) k ≡ Some x → (j : ℕ) × (j ≢ i) × (slice_get xs j ≡ Some x)
  stood_at xs i k x here = by (cases_lt k i)
    where
      by : (k < i) ⊎ (i ≤ k) → (j : ℕ) × (j ≢ i) × (slice_get xs j ≡ Some x)
      by (inl less) = (k, λ same. omega arith, sym (removed_before xs i k less) ∙ here)
      by (inr least) = (suc k, λ same. omega arith, sym (removed_after xs i k least) ∙ here)

  -- one item more changes none of the earlier ones
  pub before_last : (xs : List X) (y : X) (k : ℕ) → k < length xs → slice_get (xs ++ y ∷ []) k ≡ slice_get xs k
  before_last [] y k inside = absurd (omega arith)
  before_last (x ∷ xs) y zero inside = refl
  before_last (x ∷ xs) y (suc k) inside = before_last xs y k (omega arith)
