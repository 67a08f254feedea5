-- The steps of a loop that looks for the first of the least of a list.
use Rattle.std.proofs.Common.{◌≡◌, ℕ, ◌+◌, ◌<◌, ◌≤◌, ℤ, List, [], ◌∷◌, ◌++◌, length, take, get_or, Option, Some, None, IfSome, refl, ap, sym, subst, ◌∙◌, arith}
use Rattle.std.specs.Option.{option_map, option_and_then}
use Rattle.std.specs.Prelude.{slice_get}
use Rattle.std.proofs.lemmas.List.{take_more, take_all, length-take-le}
use Rattle.std.proofs.lemmas.Option.{slice_get_within}
use Rattle.closure_model.specs.Least.{lesser, first_least}
use Rattle.closure_model.proofs.FirstLeast.{FirstIs, first_push, first_least_of, first_least-is}

module _ {A : Type 0} (weight : A → Option ℤ) where
  pub least_more : (xs : List A) (place : ℕ) (d : A) (first result : Option (ℕ × ℤ)) → place < length xs → FirstIs weight (take place xs) first
      → result ≡ lesser first (option_map (λ w. (place, w)) (weight (get_or xs place d))) → FirstIs weight (take (place + 1) xs) result
  least_more xs place d first result inside was is =
      let x : A = get_or xs place d in
      let long : length (take place xs) ≡ place = length-take-le place xs (omega arith) in
      let pushed = first_push weight (take place xs) x first was in
      let best : lesser first (option_map (λ w. (length (take place xs), w)) (weight x)) ≡ result = ap (λ (k : ℕ). lesser first (option_map (λ w. (k, w)) (weight x))) long ∙ sym is in
      let there : FirstIs weight (take place xs ++ x ∷ []) result = subst (FirstIs weight (take place xs ++ x ∷ [])) best pushed in
      subst (λ (list : List A). FirstIs weight list result) (sym (take_more xs place d inside)) there

  pub least_all : (xs : List A) (place : ℕ) (first : Option (ℕ × ℤ)) → length xs ≤ place → FirstIs weight (take place xs) first → first ≡ first_least weight xs
  least_all xs place first past was = sym (first_least_of weight xs first (subst (λ (list : List A). FirstIs weight list first) (take_all place xs past) was))

  has_item : (o : Option A) (w : ℤ) → option_and_then weight o ≡ Some w → (x : A) × (o ≡ Some x)
  has_item None w is = absurd cc
  has_item (Some x) w is = (x, refl)

  -- the first of the least stands in the list
  pub least_inside : (xs : List A) (first : Option (ℕ × ℤ)) → first ≡ first_least weight xs → IfSome first (λ one. one.0 < length xs)
  least_inside xs None is = tt
  least_inside xs (Some one) is =
      let least : FirstIs weight xs (Some one) = subst (FirstIs weight xs) (sym is) (first_least-is weight xs) in
      let (x, here) = has_item (slice_get xs one.0) one.1 least.here in
      slice_get_within xs one.0 x here
