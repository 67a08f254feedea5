-- What holds of a fold over the first items of a list, one item after another.
use Rattle.std.proofs.Common.{◌≡◌, ℕ, zero, suc, ◌≤◌, ◌<◌, List, [], ◌∷◌, ◌++◌, length, get_or, take, fold, Some, ap, sym, ◌∙◌, subst, arith}
use Rattle.std.specs.Prelude.{slice_get}
use Rattle.std.proofs.lemmas.List.Sums.{fold-append}
use Rattle.std.proofs.lemmas.Option.{slice_get-get_or}
use Rattle.std.proofs.Math.Seq.{take-length}

module _ {S X : Type 0} (step : S → X → S) (start : S) (xs : List X) where
  -- the first items and one more
  pub one_more : (n : ℕ) (x : X) → slice_get xs n ≡ Some x → fold step start (take (suc n) xs) ≡ step (fold step start (take n xs)) x
  one_more n x here = ap (fold step start) (taken xs n here) ∙ fold-append step start (take n xs) (x ∷ [])
    where
      taken : (ys : List X) (n : ℕ) → slice_get ys n ≡ Some x → take (suc n) ys ≡ take n ys ++ x ∷ []
      taken [] n there = absurd cc
      taken (y ∷ ys) zero there = let same : y ≡ x = cc in ap (λ z. z ∷ []) same
      taken (y ∷ ys) (suc n) there = ap (λ zs. y ∷ zs) (taken ys n there)

  module _ (P : ℕ → S → Type 0) (first : P 0 start) (grow : (n : ℕ) (x : X) (s : S) → slice_get xs n ≡ Some x → P n s → P (suc n) (step s x)) where
    pub over_first : (n : ℕ) → n ≤ length xs → P n (fold step start (take n xs))
    over_first zero within = first
    over_first (suc n) within =
        let x : X = get_or xs n (at_first xs (omega arith)) in
        let here : slice_get xs n ≡ Some x = slice_get-get_or xs n (at_first xs (omega arith)) (omega arith) in
        subst (P (suc n)) (sym (one_more n x here)) (grow n x (fold step start (take n xs)) here (over_first n (omega arith)))
      where
        at_first : (ys : List X) → 0 < length ys → X
        at_first [] none = absurd (omega arith)
        at_first (y ∷ ys) some = y

    pub over_all : P (length xs) (fold step start xs)
    over_all = subst (λ (ys : List X). P (length xs) (fold step start ys)) (take-length xs) (over_first (length xs) (omega arith))
