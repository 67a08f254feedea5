-- What holds of live seats, and counts over them.
use Rattle.std.proofs.Common.{◌≡◌, ℕ, zero, suc, ◌+◌, ◌≤◌, List, [], ◌∷◌, ◌++◌, set, sym, refl, ap, subst, arith}
use Rattle.std.specs.List.{All}
use Rattle.std.proofs.lemmas.List.Elements.{All-head, All-tail}
use mathlib.Core.Option.{some, some-injective, some-ne-none}
use lib.ListN.{get_elem?}
use Rattle.shared_seats.specs.Standings.{of_live, total_of_live, OfLive}
use Rattle.shared_seats.specs.declared.standing.Standing.{Standing}
use Rattle.shared_seats.specs.declared.standing.Standing.TheVariants.{Live, Spent}

-- what holds of each element holds of the one at a place
pub all_at : {X : Type 0} (P : X → Type 0) (xs : List X) (i : ℕ) (x : X) → get_elem? xs i ≡ some x → All P xs → P x
all_at P [] i x at all = absurd (some-ne-none x (sym at))
all_at P (y ∷ ys) zero x at all = subst P (some-injective y x at) (All-head P y ys all)
all_at P (y ∷ ys) (suc i) x at all = all_at P ys i x at (All-tail P y ys all)

module _ {V : Type 0} (f : V → ℕ) where
  -- the total after a change of one standing
  pub total_set : (l : List (Standing V)) (i : ℕ) (v w : Standing V) → get_elem? l i ≡ some v → total_of_live f (set l i w) + of_live f v ≡ total_of_live f l + of_live f w
  total_set [] i v w at = absurd (some-ne-none v (sym at))
  total_set (x ∷ xs) zero v w at = let is : of_live f x ≡ of_live f v = ap (of_live f) (some-injective x v at) in omega arith
  total_set (x ∷ xs) (suc i) v w at = let rest = total_set xs i v w at in omega arith

  -- the total with one standing more
  pub total_snoc : (l : List (Standing V)) (w : Standing V) → total_of_live f (l ++ w ∷ []) ≡ total_of_live f l + of_live f w
  total_snoc [] w = omega arith
  total_snoc (x ∷ xs) w = let rest = total_snoc xs w in omega arith

  -- a seat counts at most what all count
  pub total_at : (l : List (Standing V)) (i : ℕ) (v : Standing V) → get_elem? l i ≡ some v → of_live f v ≤ total_of_live f l
  total_at l i v at = let s = total_set l i v Spent at in omega arith

  pub total_plus : (g : V → ℕ) (l : List (Standing V)) → total_of_live (λ view. f view + g view) l ≡ total_of_live f l + total_of_live g l
  total_plus g [] = refl
  total_plus g (Live v ∷ xs) = let rest = total_plus g xs in omega arith
  total_plus g (Spent ∷ xs) = let rest = total_plus g xs in omega arith

  pub total_le : (g : V → ℕ) (l : List (Standing V)) → All (OfLive (λ view. f view ≤ g view)) l → total_of_live f l ≤ total_of_live g l
  total_le g [] all = omega arith
  total_le g (Live v ∷ xs) all =
      let rest = total_le g xs (All-tail (OfLive (λ view. f view ≤ g view)) (Live v) xs all) in let here = All-head (OfLive (λ view. f view ≤ g view)) (Live v) xs all in omega arith
  total_le g (Spent ∷ xs) all = let rest = total_le g xs (All-tail (OfLive (λ view. f view ≤ g view)) Spent xs all) in omega arith

  pub total_none : (l : List (Standing V)) → All (OfLive (λ view. f view ≡ 0)) l → total_of_live f l ≡ 0
  total_none [] all = refl
  total_none (Live v ∷ xs) all =
      let rest = total_none xs (All-tail (OfLive (λ view. f view ≡ 0)) (Live v) xs all) in let here = All-head (OfLive (λ view. f view ≡ 0)) (Live v) xs all in omega arith
  total_none (Spent ∷ xs) all = let rest = total_none xs (All-tail (OfLive (λ view. f view ≡ 0)) Spent xs all) in omega arith

  -- if one count is 0 for each seat for which another is, and that is 0 in all
  pub total_zero : (g : V → ℕ) (l : List (Standing V)) → All (OfLive (λ view. g view ≡ 0 → f view ≡ 0)) l → total_of_live g l ≡ 0 → total_of_live f l ≡ 0
  total_zero g [] all none = refl
  total_zero g (Live v ∷ xs) all none =
      let rest = total_zero g xs (All-tail (OfLive (λ view. g view ≡ 0 → f view ≡ 0)) (Live v) xs all) (omega arith) in
      let here = All-head (OfLive (λ view. g view ≡ 0 → f view ≡ 0)) (Live v) xs all (omega arith) in omega arith
  total_zero g (Spent ∷ xs) all none =
      let rest = total_zero g xs (All-tail (OfLive (λ view. g view ≡ 0 → f view ≡ 0)) Spent xs all) (omega arith) in omega arith
