-- Places in lists: what stands at a place of a list that is made of another, and that the lines before one
-- are among all.
use Rattle.std.proofs.Common.{◌≡◌, ℕ, zero, suc, ◌<◌, ◌==◌, true, false, List, [], ◌∷◌, length, take, get_or, Option, Some, None, refl, ap, sym, ◌∙◌, arith}
use Rattle.std.specs.Prelude.{slice_get}
use Rattle.std.specs.List.{Contains, AllPairs, filter_map, cons_option, position_or_len}
use Rattle.std.proofs.lemmas.Bool.Decides.{nat_tests}
use Rattle.std.proofs.lemmas.Bool.{eqb-true}
use Rattle.std.proofs.lemmas.List.Sums.{fails_before_first, passes_at_first}
use Rattle.std.proofs.lemmas.Option.{slice_get-get_or, slice_get_within, get_or_from_slice_get}
use Rattle.closure_model.proofs.Lists.{Contains-head, Contains-tail}
use Rattle.closure_model.specs.declared.derivation.NodeId.{NodeId}

-- an item before a place
pub before : {X : Type 0} (n : ℕ) (xs : List X) (k : ℕ) (x : X) → slice_get xs k ≡ Some x → k < n → slice_get (take n xs) k ≡ Some x
before n [] k x here below = absurd cc
before zero (y ∷ ys) k x here below = absurd (omega arith)
before (suc n) (y ∷ ys) zero x here below = here
before (suc n) (y ∷ ys) (suc k) x here below = before n ys k x here (omega arith)

-- what is made of each item of a list
module _ {X Y : Type 0} (f : X → Option Y) where
  pub made_at : (xs : List X) → ((x : X) → Contains xs x → (y : Y) × (f x ≡ Some y)) → (k : ℕ) (x : X) (y : Y) → slice_get xs k ≡ Some x → f x ≡ Some y → slice_get (filter_map f xs) k ≡ Some y
  made_at [] all k x y here is = absurd cc
  made_at (z ∷ zs) all zero x y here is =
      let same : z ≡ x = cc in
      ap (λ (o : Option Y). slice_get (cons_option o (filter_map f zs)) 0) (ap f same ∙ is)
  made_at (z ∷ zs) all (suc k) x y here is =
      let first = all z (Contains-head z zs) in
      ap (λ (o : Option Y). slice_get (cons_option o (filter_map f zs)) (suc k)) first.1 ∙ made_at zs (λ w inside. all w (Contains-tail z zs w inside)) k x y here is

  made_cases : (z : X) (zs : List X) → ((k : ℕ) (y : Y) → slice_get (filter_map f zs) k ≡ Some y → (x : X) × Contains zs x × (f x ≡ Some y)) → (o : Option Y) → f z ≡ o → (k : ℕ) (y : Y)
      → slice_get (cons_option o (filter_map f zs)) k ≡ Some y → (x : X) × Contains (z ∷ zs) x × (f x ≡ Some y)
  made_cases z zs others None is k y there = let (x, inside, made) = others k y there in (x, Contains-tail z zs x inside, made)
  made_cases z zs others (Some w) is zero y there = (z, Contains-head z zs, is ∙ there)
  made_cases z zs others (Some w) is (suc k) y there = let (x, inside, made) = others k y there in (x, Contains-tail z zs x inside, made)

  pub made_from : (xs : List X) (k : ℕ) (y : Y) → slice_get (filter_map f xs) k ≡ Some y → (x : X) × Contains xs x × (f x ≡ Some y)
  made_from [] k y here = absurd cc
  made_from (z ∷ zs) k y here = made_cases z zs (made_from zs) (f z) refl k y here

  pub made_at_from : (xs : List X) → ((x : X) → Contains xs x → (y : Y) × (f x ≡ Some y)) → (k : ℕ) (y : Y) → slice_get (filter_map f xs) k ≡ Some y → (x : X) × (slice_get xs k ≡ Some x) × (f x ≡ Some y)
  made_at_from [] all k y here = absurd cc
  made_at_from (z ∷ zs) all zero y here =
      let first = all z (Contains-head z zs) in
      let there : Some first.0 ≡ Some y = sym (ap (λ (o : Option Y). slice_get (cons_option o (filter_map f zs)) 0) first.1) ∙ here in
      (z, refl, first.1 ∙ there)
  made_at_from (z ∷ zs) all (suc k) y here =
      let first = all z (Contains-head z zs) in
      let there : slice_get (filter_map f zs) k ≡ Some y = sym (ap (λ (o : Option Y). slice_get (cons_option o (filter_map f zs)) (suc k)) first.1) ∙ here in
      made_at_from zs (λ w inside. all w (Contains-tail z zs w inside)) k y there

-- where the number of a node stands among lines
abbrev pub place_of : List NodeId → NodeId → ℕ
place_of lines id = position_or_len (λ (line : NodeId). line.0 == id.0) lines

same_id : (one two : NodeId) → (one.0 == two.0) ≡ true → one ≡ two
same_id one two test = ap (λ (k : ℕ). record { 0 = k }) (eqb-true one.0 two.0 test)

itself : (id other : NodeId) → other ≡ id → (other.0 == id.0) ≡ false → ⊥
itself id other same test =
    let number : other.0 ≡ id.0 = ap (λ (n : NodeId). n.0) same in
    grind (arith, nat_tests)

pub place_there : (lines : List NodeId) (id : NodeId) → Contains lines id → slice_get lines (place_of lines id) ≡ Some id
place_there lines id (k, inside, at) =
    let not_after : k < place_of lines id → ⊥ = λ below. itself id (get_or lines k id) at (fails_before_first (λ (line : NodeId). line.0 == id.0) lines k id below) in
    let within : place_of lines id < length lines = omega (arith, not_after) in
    slice_get-get_or lines (place_of lines id) id within ∙ ap Some (same_id (get_or lines (place_of lines id) id) id (passes_at_first (λ (line : NodeId). line.0 == id.0) lines id within))

-- of two nodes in lines that are in order, the one of the lesser number stands before
pub stands_before : (lines : List NodeId) (j k : ℕ) (below id : NodeId) → AllPairs (λ (first second : NodeId). first.0 < second.0) lines → slice_get lines j ≡ Some below → slice_get lines k ≡ Some id → below.0 < id.0 → j < k
stands_before lines j k below id in_order at_j at_k less =
    let here_j : get_or lines j id ≡ below = get_or_from_slice_get lines j below id at_j in
    let here_k : get_or lines k id ≡ id = get_or_from_slice_get lines k id id at_k in
    let number_j : (get_or lines j id).0 ≡ below.0 = ap (λ (n : NodeId). n.0) here_j in
    let number_k : (get_or lines k id).0 ≡ id.0 = ap (λ (n : NodeId). n.0) here_k in
    let inside : j < length lines = slice_get_within lines j below at_j in
    let not_same : j ≡ k → ⊥ = λ same. let equal : (get_or lines j id).0 ≡ (get_or lines k id).0 = ap (λ (n : ℕ). (get_or lines n id).0) same in absurd (omega arith) in
    let not_after : k < j → ⊥ = λ after. let more : (get_or lines k id).0 < (get_or lines j id).0 = in_order k j id after inside in absurd (omega arith) in
    omega (arith, not_same, not_after)
