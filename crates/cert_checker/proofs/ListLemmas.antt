-- What tests say of the items of a list: that one passes, that none does, and the first that does.
use Rattle.std.proofs.Common.{◌≡◌, ℕ, ◌+◌, ◌<◌, Bool, true, false, not, ◌||◌, List, [], ◌∷◌, length, Option, Some, None, cond, suc, refl, sym, ap, ◌∙◌, subst, arith, map}
use Rattle.std.specs.Prelude.{find, nat_lt, slice_get}
use Rattle.std.specs.List.{All, Contains, list_any, filter_map, cons_option, position, position_or_len}
use Rattle.std.specs.Option.{option_map_or}
use Rattle.std.proofs.lemmas.Option.{same_Some}
use Rattle.std.proofs.lemmas.List.Quantifiers.{position-Some}
use Rattle.std.proofs.lemmas.Bool.{both_ways, false_from_ne_true}
use borrow.Author.Tests.{ltb-true}
use Rattle.std.proofs.lemmas.List.Folds.{list_any-from_Any, Any-from_list_any}
use Rattle.std.proofs.lemmas.List.Elements.{All-get_or}
use Rattle.net_model.proofs.Positions.{list_any_from_None}

-- two tests agree if each passes with the other
pub same_test : (a b : Bool) → (a ≡ true → b ≡ true) → (b ≡ true → a ≡ true) → a ≡ b
same_test true b there back = sym (there refl)
same_test false true there back = back refl
same_test false false there back = refl

-- an item that passes
pub some_passes : {A : Type 0} (test : A → Bool) (xs : List A) → list_any test xs ≡ true → (x : A) × Contains xs x × (test x ≡ true)
some_passes test xs passes =
    let (k, x, within, here, is) = Any-from_list_any test xs passes in
    (x, (k, within, here), is)

pub passes_some : {A : Type 0} (test : A → Bool) (xs : List A) (x : A) → Contains xs x → test x ≡ true → list_any test xs ≡ true
passes_some test xs x among is = list_any-from_Any test xs (among.0, x, among.1, among.2, is)

pub none_passes : {A : Type 0} (test : A → Bool) (xs : List A) (x : A) → list_any test xs ≡ false → Contains xs x → test x ≡ false
none_passes test xs x none among =
    false_from_ne_true (test x) (λ is. both_ways (list_any test xs) none (passes_some test xs x among is))

-- an item of a list of which all hold
pub holds_of : {A : Type 0} (P : A → Type 0) (xs : List A) (x : A) → All P xs → Contains xs x → P x
holds_of P xs x all among = subst P among.2 (All-get_or P xs among.0 x among.1 all)

given_by : {B : Type 0} (test : B → Bool) (o : Option B) (ys : List B) (rest : Bool) → list_any test ys ≡ rest → list_any test (cons_option o ys) ≡ (option_map_or test o false || rest)
given_by test None ys rest is = is
given_by test (Some y) ys rest is = ap (λ (b : Bool). test y || b) is

-- what is given by the items of a list
pub any_given : {A B : Type 0} (test : B → Bool) (give : A → Option B) (xs : List A) → list_any test (filter_map give xs) ≡ list_any (λ x. option_map_or test (give x) false) xs
any_given test give [] = refl
any_given test give (x ∷ xs) = given_by test (give x) (filter_map give xs) _ (any_given test give xs)

pub any_mapped : {A B : Type 0} (test : B → Bool) (f : A → B) (xs : List A) → list_any test (map f xs) ≡ list_any (λ x. test (f x)) xs
any_mapped test f [] = refl
any_mapped test f (x ∷ xs) = ap (λ (b : Bool). test (f x) || b) (any_mapped test f xs)

-- if no first item that passes is found, none passes
pub none_at : {A : Type 0} (test : A → Bool) (xs : List A) (x : A) → position test xs ≡ None → Contains xs x → test x ≡ false
none_at test xs x none among = none_passes test xs x (list_any_from_None test xs none) among

any_from_find : {A : Type 0} (test : A → Bool) (xs : List A) → find test xs ≡ None → list_any test xs ≡ false
any_from_find test [] none = refl
any_from_find test (x ∷ xs) none = by (test x) (any_from_find test xs) none
  where
    by : (b : Bool) → (find test xs ≡ None → list_any test xs ≡ false) → cond b (Some x) (find test xs) ≡ None → (b || list_any test xs) ≡ false
    by true later none = absurd (cc)
    by false later none = later none

pub nothing_found : {A : Type 0} (test : A → Bool) (xs : List A) (x : A) → find test xs ≡ None → Contains xs x → test x ≡ false
nothing_found test xs x none among = none_passes test xs x (any_from_find test xs none) among

-- the place of the first that passes, and what is there
pub place_within : {A : Type 0} (test : A → Bool) (xs : List A) (k : ℕ) → position test xs ≡ Some k → k < length xs
place_within test [] k found = absurd (cc)
place_within test (x ∷ xs) k found = (position-Some test (x ∷ xs) k x found).0

first_found : {A : Type 0} (test : A → Bool) (xs : List A) → position_or_len test xs < length xs → find test xs ≡ slice_get xs (position_or_len test xs)
first_found test [] within = absurd (omega arith)
first_found test (x ∷ xs) within = by (test x) refl (first_found test xs)
  where
    next : (a n : ℕ) → 1 + a < suc n → a < n
    next a n within = omega arith

    shifted : (n : ℕ) → slice_get xs n ≡ slice_get (x ∷ xs) (1 + n)
    shifted n = let same : suc n ≡ 1 + n = omega arith in ap (slice_get (x ∷ xs)) same

    by : (b : Bool) → test x ≡ b → (position_or_len test xs < length xs → find test xs ≡ slice_get xs (position_or_len test xs)) → find test (x ∷ xs) ≡ slice_get (x ∷ xs) (position_or_len test (x ∷ xs))
    by true is later = rw is refl
    by false is later =
        let less : cond (not (test x)) (1 + position_or_len test xs) 0 < length (x ∷ xs) = within in
        let here : cond (not (test x)) (1 + position_or_len test xs) 0 ≡ 1 + position_or_len test xs = ap (λ (b : Bool). cond (not b) (1 + position_or_len test xs) 0) is in
        let rest = later (next (position_or_len test xs) (length xs) (subst (λ n. n < length (x ∷ xs)) here less)) in
        ap (λ (b : Bool). cond b (Some x) (find test xs)) is ∙ (rest ∙ (shifted (position_or_len test xs) ∙ ap (slice_get (x ∷ xs)) (sym here)))

pub found_at : {A : Type 0} (test : A → Bool) (xs : List A) (k : ℕ) → position test xs ≡ Some k → find test xs ≡ slice_get xs k
found_at test xs k found =
    let within = place_within test xs k found in
    by (nat_lt (position_or_len test xs) (length xs)) refl found
  where
    by : (b : Bool) → nat_lt (position_or_len test xs) (length xs) ≡ b → cond b (Some (position_or_len test xs)) None ≡ Some k → find test xs ≡ slice_get xs k
    by true is found =
        let same : position_or_len test xs ≡ k = same_Some (position_or_len test xs) k found in
        first_found test xs (ltb-true (position_or_len test xs) (length xs) is) ∙ ap (slice_get xs) same
    by false is found = absurd (cc)

pub found_nowhere : {A : Type 0} (test : A → Bool) (xs : List A) → position test xs ≡ None → find test xs ≡ None
found_nowhere test xs none = nothing (list_any_from_None test xs none) refl
  where
    nothing_in : (ys : List _) → list_any test ys ≡ false → find test ys ≡ None
    nothing_in [] no_one = refl
    nothing_in (y ∷ ys) no_one = by (test y) refl no_one (nothing_in ys)
      where
        by : (b : Bool) → test y ≡ b → (b || list_any test ys) ≡ false → (list_any test ys ≡ false → find test ys ≡ None) → find test (y ∷ ys) ≡ None
        by true is no_one later = absurd (cc)
        by false is no_one later = ap (λ (b : Bool). cond b (Some y) (find test ys)) is ∙ later no_one

    nothing : list_any test xs ≡ false → xs ≡ xs → find test xs ≡ None
    nothing no_one same = nothing_in xs no_one
