-- The one of a number among items that stand in order of number.
use Rattle.std.proofs.Common.{◌≡◌, ◌≢◌, ◌⊎◌, ℕ, suc, ◌<◌, ◌≤◌, Bool, true, false, List, length, get_or, drop, drop-cons, ltb, refl, ap, sym, ◌∙◌, inl, inr, arith}
use Rattle.std.specs.Prelude.{◌&&◌, ◌||◌, ◌==◌}
use Rattle.std.specs.List.{list_any}
use Rattle.std.specs.List.Sorted.{IsNonDecreasingBy, IsPartitionPoint}
use Rattle.std.proofs.lemmas.Bool.{cases_lt, cases_order, eq-eqb, ne_eqb, ltb-true}
use Rattle.std.proofs.lemmas.Bool.Decides.{nat_tests}
use Rattle.std.proofs.lemmas.List.{get_or_default}
use Rattle.std.proofs.lemmas.List.Folds.{list_any_at, list_any_none}
use Rattle.dispatch_net.specs.Held.{Rise}

and_no : (a b : Bool) → a ≡ false → (a && b) ≡ false
and_no true b none = absurd cc
and_no false b none = refl

and_fails : (a b : Bool) → b ≡ false → (a && b) ≡ false
and_fails true b none = none
and_fails false b none = refl

module _ {X : Type 0} (number : X → ℕ) (xs : List X) (rises : Rise number xs) where
  pub are_non_decreasing : IsNonDecreasingBy number xs
  are_non_decreasing i j d upto inside =
      elim (cases_lt i j) [
        | inl less ↦ (let rise = rises i j d less inside in omega (arith, rise))
        | inr not_less ↦ (let same : i ≡ j = omega (arith, upto, not_less) in let equal = ap (λ (k : ℕ). number (get_or xs k d)) same in omega (arith, equal))
      ]

  module _ (wanted : ℕ) (test : X → Bool) where
    abbrev is_it : X → Bool
    is_it x = number x == wanted && test x

    -- a test of the items of its number is a test of the one that stands there
    pub one_there : (place : ℕ) (d : X) → place < length xs → number (get_or xs place d) ≡ wanted → list_any is_it xs ≡ test (get_or xs place d)
    one_there place d inside same = by (test (get_or xs place d)) refl
      where
        by : (b : Bool) → test (get_or xs place d) ≡ b → list_any is_it xs ≡ b
        by true is = list_any_at is_it xs place d inside (λ i. eq-eqb (number (get_or xs place d)) wanted same i && is i)
        by false is = list_any_none is_it xs (λ k e within. fails k e within (cases_order k place))
          where
            fails : (k : ℕ) (e : X) → k < length xs → (k ≡ place) ⊎ ((k < place) ⊎ (place < k)) → is_it (get_or xs k e) ≡ false
            fails k e within (inl at) =
                let it : get_or xs k e ≡ get_or xs place d = ap (λ (n : ℕ). get_or xs n e) at ∙ get_or_default xs place e d inside in
                and_fails (number (get_or xs k e) == wanted) (test (get_or xs k e)) (ap test it ∙ is)
            fails k e within (inr (inl before)) =
                let rise = rises k place e before inside in
                let its = ap number (get_or_default xs place e d inside) in
                and_no (number (get_or xs k e) == wanted) (test (get_or xs k e)) (ne_eqb (number (get_or xs k e)) wanted (λ equal. omega (arith, rise, its, same, equal)))
            fails k e within (inr (inr after)) =
                let rise = rises place k e after within in
                let its = ap number (get_or_default xs place e d inside) in
                and_no (number (get_or xs k e) == wanted) (test (get_or xs k e)) (ne_eqb (number (get_or xs k e)) wanted (λ equal. omega (arith, rise, its, same, equal)))

    -- and if another stands at the place that is searched, there is none
    pub none_there : (place : ℕ) → IsPartitionPoint (λ x. ltb (number x) wanted ≡ true) (λ x. ltb (number x) wanted ≡ false) xs place
        → ((d : X) → place < length xs → number (get_or xs place d) ≢ wanted) → list_any is_it xs ≡ false
    none_there place (below, from) other = list_any_none is_it xs (λ k e within. fails k e within (cases_order k place))
      where
        fails : (k : ℕ) (e : X) → k < length xs → (k ≡ place) ⊎ ((k < place) ⊎ (place < k)) → is_it (get_or xs k e) ≡ false
        fails k e within (inl at) =
            let its = ap (λ (n : ℕ). number (get_or xs n e)) at in
            and_no (number (get_or xs k e) == wanted) (test (get_or xs k e)) (ne_eqb (number (get_or xs k e)) wanted (λ equal. other e (omega (arith, within, at)) (sym its ∙ equal)))
        fails k e within (inr (inl before)) =
            let less = ltb-true (number (get_or xs k e)) wanted (below k e (omega arith) before) in
            and_no (number (get_or xs k e) == wanted) (test (get_or xs k e)) (ne_eqb (number (get_or xs k e)) wanted (λ equal. omega (arith, less, equal)))
        fails k e within (inr (inr after)) =
            let rise = rises place k e after within in
            let here = from place e (omega arith) (omega (arith, within, after)) in
            let least : wanted ≤ number (get_or xs place e) = grind (arith, nat_tests) in
            and_no (number (get_or xs k e) == wanted) (test (get_or xs k e)) (ne_eqb (number (get_or xs k e)) wanted (λ equal. omega (arith, rise, least, equal)))

-- ---- a list that is tried from the last item back
module _ {X : Type 0} (test : X → Bool) (xs : List X) (place : ℕ) (d : X) (inside : place < length xs) where
  pub none_from : test (get_or xs place d) ≡ false → list_any test (drop (suc place) xs) ≡ false → list_any test (drop place xs) ≡ false
  none_from fails none = ap (list_any test) (drop-cons xs place d inside) ∙ (λ i. fails i || none i)
