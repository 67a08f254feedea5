-- In a list of keys that rises a key stands at one place.
use Rattle.std.proofs.Common.{◌≡◌, ℕ, zero, suc, List, [], ◌∷◌, Some, refl, ap, sym, subst, ◌∙◌}
use Rattle.std.specs.Prelude.{slice_get}
use Rattle.std.specs.List.{AllByRecursion}
use Rattle.std.proofs.lemmas.Option.{same_Some}
use Rattle.closure_model.specs.Keys.{Key}
use Rattle.closure_model.proofs.KeyLists.{Rises}
use Rattle.closure_model.proofs.KeyOrder.{key_itself}
use Rattle.std.specs.declared.cmp.Ordering.TheVariants.{Less, Equal}
use Rattle.closure_model.specs.Keys.{key_cmp}

-- no later key is the first one
not_later : (x : Key) (xs : List Key) → AllByRecursion (λ (l : Key). key_cmp x l ≡ Less) xs → (j : ℕ) (key : Key) → x ≡ key → slice_get xs j ≡ Some key → ⊥
not_later x [] all j key is at = absurd cc
not_later x (y ∷ ys) all zero key is at =
    let same : y ≡ x = same_Some y key at ∙ sym is in
    let equal : key_cmp x x ≡ Equal = key_itself x in
    let less : key_cmp x x ≡ Less = subst (λ (k : Key). key_cmp x k ≡ Less) same all.0 in
    absurd cc
not_later x (y ∷ ys) all (suc j) key is at = not_later x ys all.1 j key is at

-- in a list of keys that rises a key stands at one place
pub only_place : (keys : List Key) → Rises keys → (i j : ℕ) (key : Key) → slice_get keys i ≡ Some key → slice_get keys j ≡ Some key → i ≡ j
only_place [] rises i j key one two = absurd cc
only_place (x ∷ xs) rises zero zero key one two = refl
only_place (x ∷ xs) rises zero (suc j) key one two = absurd (not_later x xs rises.0 j key (same_Some x key one) two)
only_place (x ∷ xs) rises (suc i) zero key one two = absurd (not_later x xs rises.0 i key (same_Some x key two) one)
only_place (x ∷ xs) rises (suc i) (suc j) key one two = ap suc (only_place xs rises.1 i j key one two)
