-- Numbered lists that rise: two with the same items are one, and a list in order rises if no number stands in it twice.
use Rattle.std.proofs.Common.{◌≡◌, ◌≢◌, ◌==◌, ℕ, zero, suc, ◌+◌, ◌<◌, ◌≤◌, ◌⊎◌, cond, Bool, List, [], ◌∷◌, length, get_or, Option, Some, None, refl, ap, sym, subst, ◌∙◌, inl, inr, arith}
use Rattle.std.specs.List.{AllByRecursion, Contains, cons_option, filter_map, sum_by}
use Rattle.std.specs.List.Sorted.{IsPermutation, IsNonDecreasingBy}
use Rattle.std.proofs.lemmas.Bool.{cases_eq, eq-eqb, ne_eqb}
use Rattle.std.proofs.lemmas.List.Elements.{All-from_recursion}
use Rattle.std.proofs.lemmas.List.Kept.{AllPairs-cons}
use Rattle.std.proofs.lemmas.List.Sorted.{sum_by-IsPermutation}
use Rattle.std.proofs.lemmas.List.Sums.{sum_by-cons}
use Rattle.closure_model.proofs.Lists.{Contains-none, Contains-head, Contains-tail, Contains-cases}
use Rattle.dispatch_net.specs.Held.{Rise}

-- ---- what holds of each item and each later one
abbrev pub Pairs : {X : Type 0} → (X → X → Type 0) → List X → Type 0
Pairs R [] = Unit {0}
Pairs R (x ∷ xs) = AllByRecursion (R x) xs × Pairs R xs

module _ {X Y : Type 0} (R : X → X → Type 0) (S : Y → Y → Type 0) (f : X → Option Y) (keeps : (x z : X) (y w : Y) → R x z → f x ≡ Some y → f z ≡ Some w → S y w) where
  kept_later : (x : X) (y : Y) (xs : List X) → f x ≡ Some y → AllByRecursion (R x) xs → AllByRecursion (S y) (filter_map f xs)
  kept_later x y [] at all = tt
  kept_later x y (z ∷ zs) at (one, more) = by (f z) refl (kept_later x y zs at more)
    where
      by : (o : Option Y) → f z ≡ o → AllByRecursion (S y) (filter_map f zs) → AllByRecursion (S y) (cons_option o (filter_map f zs))
      by None none rest = rest
      by (Some w) some rest = (keeps x z y w one at some, rest)

  pub kept_pairs : (xs : List X) → Pairs R xs → Pairs S (filter_map f xs)
  kept_pairs [] pairs = tt
  kept_pairs (x ∷ xs) (first, more) = by (f x) refl (kept_pairs xs more)
    where
      by : (o : Option Y) → f x ≡ o → Pairs S (filter_map f xs) → Pairs S (cons_option o (filter_map f xs))
      by None none rest = rest
      by (Some y) some rest = (kept_later x y xs some first, rest)

module _ {X : Type 0} (number : X → ℕ) where
  -- ---- two lists that rise
  rise_tail : (x : X) (xs : List X) → Rise number (x ∷ xs) → Rise number xs
  rise_tail x xs rises i j d less inside = rises (suc i) (suc j) d (omega (arith, less)) (omega (arith, inside))

  rise_first : (x : X) (xs : List X) → Rise number (x ∷ xs) → (y : X) → Contains xs y → number x < number y
  rise_first x xs rises y (k, inside, at) = subst (λ z. number x < number z) at (rises 0 (suc k) y (omega arith) (omega (arith, inside)))

  first_least : (x : X) (xs : List X) → Rise number (x ∷ xs) → (y : X) → (x ≡ y) ⊎ Contains xs y → number x ≤ number y
  first_least x xs rises y (inl same) = let is = ap number same in omega (arith, is)
  first_least x xs rises y (inr later) = let less = rise_first x xs rises y later in omega (arith, less)

  same_head : (x y : X) (xs ys : List X) → Rise number (x ∷ xs) → Rise number (y ∷ ys) → Contains (x ∷ xs) y → (y ≡ x) ⊎ Contains ys x → x ≡ y
  same_head x y xs ys rises also there (inl same) = sym same
  same_head x y xs ys rises also there (inr later) =
      let less = rise_first y ys also x later in
      let least = first_least x xs rises y (Contains-cases x xs y there) in
      absurd (omega (arith, less, least))

  -- what stands in the other list after the same head
  in_tail : (x y : X) (xs ys : List X) → Rise number (x ∷ xs) → x ≡ y → (z : X) → Contains xs z → (y ≡ z) ⊎ Contains ys z → Contains ys z
  in_tail x y xs ys rises same z among (inr there) = there
  in_tail x y xs ys rises same z among (inl first) =
      let less = rise_first x xs rises z among in
      let is = ap number (same ∙ first) in
      absurd (omega (arith, less, is))

  pub same_rising : (xs ys : List X) → Rise number xs → Rise number ys → ((z : X) → Contains xs z → Contains ys z) → ((z : X) → Contains ys z → Contains xs z) → xs ≡ ys
  same_rising [] [] rises also to from = refl
  same_rising [] (y ∷ ys) rises also to from = absurd (Contains-none y (from y (Contains-head y ys)))
  same_rising (x ∷ xs) [] rises also to from = absurd (Contains-none x (to x (Contains-head x xs)))
  same_rising (x ∷ xs) (y ∷ ys) rises also to from =
      let same = same_head x y xs ys rises also (from y (Contains-head y ys)) (Contains-cases y ys x (to x (Contains-head x xs))) in
      let rest = same_rising xs ys (rise_tail x xs rises) (rise_tail y ys also)
      (λ z among. in_tail x y xs ys rises same z among (Contains-cases y ys z (to z (Contains-tail x xs z among))))
      (λ z among. in_tail y x ys xs also (sym same) z among (Contains-cases x xs z (from z (Contains-tail y ys z among)))) in
      λ i. same i ∷ rest i

  -- ---- a list in order without a number twice
  abbrev count : ℕ → List X → ℕ
  count n xs = sum_by (λ x. cond (number x == n) 1 0) xs

  one_more : (n : ℕ) (x : X) (xs : List X) → number x ≡ n → count n (x ∷ xs) ≡ 1 + count n xs
  one_more n x xs is = sum_by-cons (λ x. cond (number x == n) 1 0) x xs ∙ ap (λ (b : Bool). cond b 1 0 + count n xs) (eq-eqb (number x) n is)

  none_more : (n : ℕ) (x : X) (xs : List X) → number x ≢ n → count n (x ∷ xs) ≡ 0 + count n xs
  none_more n x xs other = sum_by-cons (λ x. cond (number x == n) 1 0) x xs ∙ ap (λ (b : Bool). cond b 1 0 + count n xs) (ne_eqb (number x) n other)

  none_there : (n : ℕ) (xs : List X) → AllByRecursion (λ x. n ≢ number x) xs → count n xs ≡ 0
  none_there n [] others = refl
  none_there n (x ∷ xs) (one, more) =
      let here = none_more n x xs (λ same. one (sym same)) in
      let rest = none_there n xs more in
      omega (arith, here, rest)

  once : (xs : List X) → Pairs (λ x y. number x ≢ number y) xs → (n : ℕ) → count n xs ≤ 1
  once [] pairs n = omega arith
  once (x ∷ xs) (first, more) n = by (once xs more n) (cases_eq (number x) n)
    where
      by : count n xs ≤ 1 → (number x ≡ n) ⊎ (number x ≢ n) → count n (x ∷ xs) ≤ 1
      by rest (inl is) =
          let here = one_more n x xs is in
          let none = none_there n xs (subst (λ m. AllByRecursion (λ y. m ≢ number y) xs) is first) in
          omega (arith, here, none)
      by rest (inr other) = let here = none_more n x xs other in omega (arith, here, rest)

  some_there : (xs : List X) (k : ℕ) (d : X) → k < length xs → 1 ≤ count (number (get_or xs k d)) xs
  some_there [] k d inside = absurd (omega (arith, inside))
  some_there (x ∷ xs) zero d inside = let here = one_more (number x) x xs refl in omega (arith, here)
  some_there (x ∷ xs) (suc k) d inside = by (some_there xs k d (omega (arith, inside))) (cases_eq (number x) (number (get_or xs k d)))
    where
      by : 1 ≤ count (number (get_or xs k d)) xs → (number x ≡ number (get_or xs k d)) ⊎ (number x ≢ number (get_or xs k d)) → 1 ≤ count (number (get_or xs k d)) (x ∷ xs)
      by rest (inl is) = let here = one_more (number (get_or xs k d)) x xs is in omega (arith, here)
      by rest (inr other) = let here = none_more (number (get_or xs k d)) x xs other in omega (arith, here, rest)

  rises_once : (xs : List X) → IsNonDecreasingBy number xs → ((n : ℕ) → count n xs ≤ 1) → Rise number xs
  rises_once [] ordered few = λ i j d less inside. absurd (omega (arith, less, inside))
  rises_once (x ∷ xs) ordered few =
      AllPairs-cons (λ x y. number x < number y) x xs (λ k d inside. later k d inside (cases_eq (number x) (number (get_or xs k d))))
      (rises_once xs (λ i j d less inside. ordered (suc i) (suc j) d (omega (arith, less)) (omega (arith, inside))) fewer)
    where
      later : (k : ℕ) (d : X) → k < length xs → (number x ≡ number (get_or xs k d)) ⊎ (number x ≢ number (get_or xs k d)) → number x < number (get_or xs k d)
      later k d inside (inl same) =
          let here = one_more (number (get_or xs k d)) x xs same in
          let there = some_there xs k d inside in
          let most = few (number (get_or xs k d)) in
          absurd (omega (arith, here, there, most))
      later k d inside (inr other) =
          let least : number x ≤ number (get_or xs k d) = ordered 0 (suc k) d (omega arith) (omega (arith, inside)) in
          grind (arith, least, other)

      fewer : (n : ℕ) → count n xs ≤ 1
      fewer n = by (cases_eq (number x) n)
        where
          by : (number x ≡ n) ⊎ (number x ≢ n) → count n xs ≤ 1
          by (inl is) = let here = one_more n x xs is in let most = few n in omega (arith, here, most)
          by (inr other) = let here = none_more n x xs other in let most = few n in omega (arith, here, most)

  -- what is put in order rises if no number stands in it twice
  pub sorted_rises : (xs ys : List X) → Pairs (λ x y. number x ≢ number y) xs → IsPermutation xs ys → IsNonDecreasingBy number ys → Rise number ys
  sorted_rises xs ys pairs permuted ordered = rises_once ys ordered (λ n. let same = sum_by-IsPermutation (λ x. cond (number x == n) 1 0) xs ys permuted in let most = once xs pairs n in omega (arith, same, most))

  pub rising : (xs : List X) → Pairs (λ x y. number x < number y) xs → Rise number xs
  rising [] pairs = λ i j d less inside. absurd (omega (arith, less, inside))
  rising (x ∷ xs) (first, more) = AllPairs-cons (λ x y. number x < number y) x xs (All-from_recursion (λ y. number x < number y) xs first) (rising xs more)
