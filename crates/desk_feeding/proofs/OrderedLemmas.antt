-- A list of points has exactly one order by number.
use Rattle.std.proofs.Common.{◌≡◌, ◌≢◌, ◌==◌, ℕ, zero, suc, ◌+◌, ◌<◌, ◌≤◌, ◌⊎◌, cond, Bool, true, false, List, [], ◌∷◌, length, get_or, refl, ap, sym, subst, ◌∙◌, inl, inr, arith}
use Rattle.std.specs.List.{All, sum_by}
use Rattle.std.specs.List.Sorted.{IsPermutation, IsNonDecreasingBy}
use Rattle.std.proofs.lemmas.Bool.{cases_eq, cases_lt, eq-eqb, ne_eqb}
use Rattle.std.proofs.lemmas.List.Elements.{All-head, All-tail, All-nil, All-cons}
use Rattle.std.proofs.lemmas.List.Sorted.{sum_by-IsPermutation, All-permutation, IsPermutation-refl, IsPermutation-sym, IsPermutation-trans, IsPermutation-cons, IsPermutation-middle}
use Rattle.std.proofs.lemmas.List.Sums.{sum_by-cons}
use Rattle.net_model.specs.declared.ids.PointId.{PointId}
use Rattle.std.specs.Bool.{Decides}
use Rattle.std.proofs.lemmas.Bool.Decides.{Decides-eqb}
use Rattle.desk_feeding.specs.Ordered.{IsInOrder}

abbrev occurs : ℕ → PointId → ℕ
occurs number point = cond (point.0 == number) 1 0

abbrev count : ℕ → List PointId → ℕ
count number points = sum_by (occurs number) points

one_more : (number : ℕ) (point : PointId) (others : List PointId) → point.0 ≡ number → count number (point ∷ others) ≡ 1 + count number others
one_more number point others is = sum_by-cons (occurs number) point others ∙ ap (λ (b : Bool). cond b 1 0 + count number others) (eq-eqb point.0 number is)

none_more : (number : ℕ) (point : PointId) (others : List PointId) → point.0 ≢ number → count number (point ∷ others) ≡ 0 + count number others
none_more number point others other = sum_by-cons (occurs number) point others ∙ ap (λ (b : Bool). cond b 1 0 + count number others) (ne_eqb point.0 number other)

none_above : (number : ℕ) (points : List PointId) → All (λ (point : PointId). number < point.0) points → count number points ≡ 0
none_above number [] above = refl
none_above number (point ∷ others) above =
    let first : number < point.0 = All-head (λ (p : PointId). number < p.0) point others above in
    let here = none_more number point others (λ e. omega (arith, first, e)) in
    let rest = none_above number others (All-tail (λ (p : PointId). number < p.0) point others above) in
    omega (arith, here, rest)

abbrev Rises : List PointId → Type 0
Rises = IsNonDecreasingBy (λ (point : PointId). point.0)

rises_tail : (point : PointId) (others : List PointId) → Rises (point ∷ others) → Rises others
rises_tail point others rises i j d less within = rises (suc i) (suc j) d (omega (arith, less)) (omega (arith, within))

rises_all : (point : PointId) (others : List PointId) → Rises (point ∷ others) → (number : ℕ) → number < point.0 → All (λ (p : PointId). number < p.0) (point ∷ others)
rises_all point others rises number less k d within = let more : point.0 ≤ (get_or (point ∷ others) k d).0 = rises 0 k d (omega arith) within in omega (arith, less, more)

same_first : (x : PointId) (xs : List PointId) (y : PointId) (ys : List PointId) → Rises (x ∷ xs) → Rises (y ∷ ys) → ((n : ℕ) → count n (x ∷ xs) ≡ count n (y ∷ ys)) → x.0 ≡ y.0
same_first x xs y ys rises also same = by (cases_lt x.0 y.0) (cases_lt y.0 x.0)
  where
    by : (x.0 < y.0) ⊎ (y.0 ≤ x.0) → (y.0 < x.0) ⊎ (x.0 ≤ y.0) → x.0 ≡ y.0
    by (inl less) later =
        let none = none_above x.0 (y ∷ ys) (rises_all y ys also x.0 less) in
        let one = one_more x.0 x xs refl in
        let is = same x.0 in
        absurd (omega (arith, none, one, is))
    by (inr most) (inl less) =
        let none = none_above y.0 (x ∷ xs) (rises_all x xs rises y.0 less) in
        let one = one_more y.0 y ys refl in
        let is = same y.0 in
        absurd (omega (arith, none, one, is))
    by (inr most) (inr least) = omega (arith, most, least)

one_order : (xs ys : List PointId) → Rises xs → Rises ys → ((n : ℕ) → count n xs ≡ count n ys) → xs ≡ ys
one_order [] [] rises also same = refl
one_order [] (y ∷ ys) rises also same = let one = one_more y.0 y ys refl in let is = same y.0 in absurd (omega (arith, one, is))
one_order (x ∷ xs) [] rises also same = let one = one_more x.0 x xs refl in let is = same x.0 in absurd (omega (arith, one, is))
one_order (x ∷ xs) (y ∷ ys) rises also same =
    let first = same_first x xs y ys rises also same in
    let rest = one_order xs ys (rises_tail x xs rises) (rises_tail y ys also) (λ n. counted n (cases_eq x.0 n)) in
    λ i. record { 0 = first i } ∷ rest i
  where
    counted : (n : ℕ) → (x.0 ≡ n) ⊎ (x.0 ≢ n) → count n xs ≡ count n ys
    counted n (inl is) =
        let first = same_first x xs y ys rises also same in
        let here = one_more n x xs is in
        let there = one_more n y ys (sym first ∙ is) in
        let all = same n in
        omega (arith, here, there, all)
    counted n (inr other) =
        let first = same_first x xs y ys rises also same in
        let here = none_more n x xs other in
        let there = none_more n y ys (λ e. other (first ∙ e)) in
        let all = same n in
        omega (arith, here, there, all)

pub order_is_one : (listed one other : List PointId) → IsInOrder listed one → IsInOrder listed other → one ≡ other
order_is_one listed one other is also =
    one_order one other is.rises also.rises (λ n. sum_by-IsPermutation (occurs n) listed one is.same ∙ sym (sum_by-IsPermutation (occurs n) listed other also.same))

-- ---- there is one
rises_cons : (point : PointId) (others : List PointId) → All (λ (p : PointId). point.0 ≤ p.0) others → Rises others → Rises (point ∷ others)
rises_cons point others above rises zero zero d less within = omega arith
rises_cons point others above rises zero (suc j) d less within = above j d (omega (arith, within))
rises_cons point others above rises (suc i) zero d less within = absurd (omega (arith, less))
rises_cons point others above rises (suc i) (suc j) d less within = rises i j d (omega (arith, less)) (omega (arith, within))

rises_above : (point other : PointId) (others : List PointId) → point.0 ≤ other.0 → Rises (other ∷ others) → All (λ (p : PointId). point.0 ≤ p.0) (other ∷ others)
rises_above point other others below rises zero d within = below
rises_above point other others below rises (suc k) d within =
    let more : other.0 ≤ (get_or (other ∷ others) (suc k) d).0 = rises 0 (suc k) d (omega arith) within in omega (arith, below, more)

-- a point is put among others in order
abbrev Placed : PointId → List PointId → Type 0
Placed point others = (all : List PointId) × IsPermutation (point ∷ others) all × Rises all

place : (point : PointId) (others : List PointId) → Rises others → Placed point others
place point [] rises = (point ∷ [], IsPermutation-refl (point ∷ []), rises_cons point [] (All-nil (λ (p : PointId). point.0 ≤ p.0)) rises)
place point (other ∷ others) rises = by (cases_lt other.0 point.0) (place point others (rises_tail other others rises))
  where
    by : (other.0 < point.0) ⊎ (point.0 ≤ other.0) → Placed point others → Placed point (other ∷ others)
    by (inr below) more = (
      point ∷ other ∷ others,
      IsPermutation-refl (point ∷ other ∷ others),
      rises_cons point (other ∷ others) (rises_above point other others below rises) rises,
    )
    by (inl less) more =
        let Above : PointId → Type 0 = λ p. other.0 ≤ p.0 in
        let later = All-tail Above other others (rises_above other other others (omega arith) rises) in
        let above = All-permutation Above (point ∷ others) more.0 more.1 (All-cons Above point others (omega (arith, less)) later) in
        let first = IsPermutation-sym (other ∷ point ∷ others) (point ∷ other ∷ others) (IsPermutation-middle (other ∷ []) point others) in (
          other ∷ more.0,
          IsPermutation-trans (point ∷ other ∷ others) (other ∷ point ∷ others) (other ∷ more.0) first (IsPermutation-cons other (point ∷ others) more.0 more.1),
          rises_cons other more.0 above more.2,
        )

pub order_is_there : (listed : List PointId) → (ordered : List PointId) × IsInOrder listed ordered
order_is_there [] = ([], record { same = IsPermutation-refl []; rises = λ i j d less within. absurd (omega (arith, within)) })
order_is_there (point ∷ points) =
    let others = order_is_there points in
    let all = place point others.0 others.1.rises in
    (all.0, record { same = IsPermutation-trans (point ∷ points) (point ∷ others.0) all.0 (IsPermutation-cons point points others.0 others.1.same) all.1; rises = all.2 })

-- the test of two points decides whether they are one
pub points_decide : (one other : PointId) → Decides (one.0 == other.0) (one ≡ other)
points_decide one other =
    let number = Decides-eqb one.0 other.0 in ((λ passes i. record { 0 = number.0 passes i }), (λ same. number.1 (ap (λ (p : PointId). p.0) same)))
