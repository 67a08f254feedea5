-- The place that `position` gives: after a push, over a mapped list, and if no item passes.
use Rattle.std.proofs.Common.{◌≡◌, ℕ, ◌+◌, ◌<◌, ◌≤◌, ◌∙◌, Bool, true, false, cond, not, List, [], ◌∷◌, ◌++◌, length, get_or, map, Option, Some, None, position, refl, ap, arith}
use Rattle.std.specs.Prelude.{nat_lt}
use Rattle.std.specs.List.{All, list_any, position_or_len}
use Rattle.std.specs.Option.{option_map}
use Rattle.std.proofs.lemmas.Grind.{common_steps}
use Rattle.std.proofs.lemmas.Bool.Decides.{nat_tests}
use Rattle.std.proofs.lemmas.List.Sums.{fails_before_first, position_or_len_is, prefix_len-le-length}
use Rattle.std.proofs.lemmas.List.Folds.{list_any_none}

-- an answer that a function makes of a place is `None` only if there is no place
pub None_from_option_map : {A B : Type 0} (f : A → B) (o : Option A) → option_map f o ≡ None → o ≡ None
None_from_option_map f None e = refl
None_from_option_map f (Some x) e = absurd (cc)

module _ {X : Type 0} (p : X → Bool) where
  pub fails_from_None : (xs : List X) → position p xs ≡ None → All (λ x. p x ≡ false) xs
  fails_from_None xs none k d inside =
      let past : length xs ≤ position_or_len p xs = grind (arith, common_steps) in
      fails_before_first p xs k d (omega arith)

  pub None_from_fails : (xs : List X) → All (λ x. p x ≡ false) xs → position p xs ≡ None
  None_from_fails [] fails = refl
  None_from_fails (x ∷ xs) fails =
      let past = position_or_len_is p (x ∷ xs) (length (x ∷ xs)) x (omega arith) (λ k inside. fails k x inside) (λ more. absurd (omega arith)) in
      grind (arith, common_steps)

  pub list_any_from_None : (xs : List X) → position p xs ≡ None → list_any p xs ≡ false
  list_any_from_None xs none = list_any_none p xs (fails_from_None xs none)

  -- a pushed item that fails changes nothing
  pub position-push_fails : (xs : List X) (y : X) → p y ≡ false → position p (xs ++ y ∷ []) ≡ position p xs
  position-push_fails xs y fails = grind (arith, common_steps)

  -- a pushed item that passes is the first if none passed before
  pub position-push_passes : (xs : List X) (y : X) → position p xs ≡ None → p y ≡ true → position p (xs ++ y ∷ []) ≡ Some (length xs)
  position-push_passes xs y none passes = grind (arith, common_steps, prefix_len-le-length (λ x. not (p x)) xs)

  pub position_or_len-map : {Y : Type 0} (f : Y → X) (ys : List Y) → position_or_len p (map f ys) ≡ position_or_len (λ y. p (f y)) ys
  position_or_len-map f [] = refl
  position_or_len-map f (y ∷ ys) = ap (λ n. cond (not (p (f y))) (1 + n) 0) (position_or_len-map f ys)

  pub position-map : {Y : Type 0} (f : Y → X) (ys : List Y) → position p (map f ys) ≡ position (λ y. p (f y)) ys
  position-map f ys = rw (position_or_len-map f ys) (grind (arith, common_steps))

-- the place of the first that passes
pub position_first : {X : Type 0} (p : X → Bool) (xs : List X) (k : ℕ) (d : X) → k < length xs → p (get_or xs k d) ≡ true → ((j : ℕ) → j < k → p (get_or xs j d) ≡ false) → position p xs ≡ Some k
position_first p xs k d inside passes before =
    let here : position_or_len p xs ≡ k = position_or_len_is p xs k d (omega arith) before (λ _. passes) in
    let within : nat_lt k (length xs) ≡ true = grind (arith, nat_tests) in
    ap (λ (n : ℕ). cond (nat_lt n (length xs)) (Some n) None) here ∙ ap (λ (b : Bool). cond b (Some k) None) within
