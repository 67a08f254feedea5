-- The names of goals: each is a name, they differ, and so one is free if there are fewer bounds than names.
use Rattle.std.proofs.Common.{◌≡◌, ℕ, ◌+◌, ◌≤◌, ◌<◌, ◌^◌, zero, suc, Bool, true, List, [], ◌∷◌, ◌++◌, length, drop, map, get_or, Option, Some, None, position, inl, inr, refl, sym, ap, subst, ◌∙◌, pos, arith, eqb, ltb}
use Rattle.std.specs.Prelude.{codes}
use Rattle.std.specs.Option.{IsSome, option_map}
use Rattle.std.specs.Fmt.{decimal}
use Rattle.std.specs.List.{list_all, list_any}
use Rattle.std.specs.Str.{bytes_eq}
use Rattle.std.specs.Str.Parse.{AllDigits, digits_value}
use Rattle.std.proofs.lemmas.Bool.{cases_lt, lt-ltb, ne_eqb}
use Rattle.std.proofs.lemmas.Bool.Decides.{nat_tests}
use Rattle.std.proofs.lemmas.Fmt.{decimal_is_IsNumeral, length-decimal-le}
use Rattle.std.proofs.lemmas.Int.Digits.{digits_value-lt}
use Rattle.std.proofs.lemmas.List.{get_or-map, length-map}
use Rattle.std.proofs.lemmas.List.Folds.{list_any_at}
use Rattle.std.proofs.lemmas.List.Quantifiers.{position-Some}
use Rattle.std.proofs.lemmas.Map.Steps.{le-length_from_below}
use Rattle.std.proofs.lemmas.Slice.Eq.{bytes_eq-Decides}
use Rattle.std.proofs.lemmas.Str.Parse.{tells_digits}
use Rattle.net_model.specs.Names.{is_name, is_name_byte}
use Rattle.net_model.specs.Network.{Plan, bound_named}
use Rattle.net_model.specs.declared.ids.BoundId.{BoundId}
use Rattle.net_model.specs.declared.part.Bound.{Bound}
use Rattle.deadline_search.specs.Goals.{goal_name}

-- what comes after the five bytes of `goal.`, read as a number
abbrev number_of : List ℕ → ℕ
number_of name = digits_value 10 (drop 5 name)

-- a place beyond 0 follows in the name
later_name : (place : ℕ) → goal_name (suc place) ≡ codes "goal." ++ decimal (suc place)
later_name place = rw (ne_eqb (suc place) 0 (λ same. omega (arith, same))) refl

-- the number in the name of a place is that
number_in : (place : ℕ) → place < 2 ^ 64 → number_of (goal_name place) ≡ place
number_in zero small = omega (arith, digits_value-lt 10 [] tt)
number_in (suc place) small = ap (λ (name : List ℕ). digits_value 10 (drop 5 name)) (later_name place) ∙ (decimal_is_IsNumeral (suc place) small).1

name_bytes : (digits : List ℕ) → AllDigits 10 digits → list_all is_name_byte digits ≡ true
name_bytes [] all = refl
name_bytes (digit ∷ digits) all =
    let parts = tells_digits.parts digit digits all in
    let here : is_name_byte digit ≡ true = grind (arith, nat_tests, parts.0) in
    rw (here, name_bytes digits parts.1) refl

-- the name of a place is a name
pub goal_named : (place : ℕ) → place < 10 ^ 5 → is_name (goal_name place) ≡ true
unfolding is_name
goal_named zero small = refl
goal_named (suc place) small =
    let numeral = decimal_is_IsNumeral (suc place) (omega (arith, small)) in
    let all : list_all is_name_byte (decimal (suc place)) ≡ true = name_bytes (decimal (suc place)) numeral.0.1 in
    let few : length (decimal (suc place)) ≤ 5 = length-decimal-le 5 (suc place) (omega arith) small (omega (arith, small)) in
    let less : ltb (length (111 ∷ 97 ∷ 108 ∷ 46 ∷ decimal (suc place))) 32 ≡ true = lt-ltb (length (111 ∷ 97 ∷ 108 ∷ 46 ∷ decimal (suc place))) 32 (omega (arith, few)) in
    let named : is_name (103 ∷ 111 ∷ 97 ∷ 108 ∷ 46 ∷ decimal (suc place)) ≡ true = rw (all, less) refl in
    subst (λ (name : List ℕ). is_name name ≡ true) (sym (later_name place)) named

-- what a bound has that is named as a place is
no_bound : Bound
no_bound = record { name = []; from = record { 0 = 0 }; to = record { 0 = 0 }; most = pos 0 }

-- the place of a name that a bound has is among the numbers in the names of bounds
numbered : (net : Plan) (place : ℕ) → place < 2 ^ 64 → IsSome (bound_named net (goal_name place)) → list_any (eqb place) (map (λ (b : Bound). number_of b.name) net.bounds) ≡ true
numbered net place small some = by (position named net.bounds) refl some
  where
    named : Bound → Bool
    named = λ (b : Bound). bytes_eq (goal_name place) b.name

    number : Bound → ℕ
    number = λ (b : Bound). number_of b.name

    bound_at : ℕ → BoundId
    bound_at = λ (k : ℕ). record { 0 = k }

    by : (found : Option ℕ) → position named net.bounds ≡ found → IsSome (option_map bound_at found) → list_any (eqb place) (map number net.bounds) ≡ true
    by None is some = absurd (cc)
    by (Some k) is some =
        let found = position-Some named net.bounds k no_bound is in
        let same : goal_name place ≡ (get_or net.bounds k no_bound).name = (bytes_eq-Decides (goal_name place) (get_or net.bounds k no_bound).name).0 found.1 in
        let here : get_or (map number net.bounds) k 0 ≡ place = get_or-map number net.bounds k no_bound 0 found.0 ∙ (sym (ap number_of same) ∙ number_in place small) in
        let inside : k < length (map number net.bounds) = omega (arith, found.0, length-map net.bounds number) in
        list_any_at (eqb place) (map number net.bounds) k 0 inside (rw here (grind (arith, nat_tests)))

-- if each name up to a place is that of a bound, there are as many bounds
pub as_many_bounds : (net : Plan) (place : ℕ) → place ≤ 2 ^ 32 → ((earlier : ℕ) → earlier < place → IsSome (bound_named net (goal_name earlier))) → place ≤ length net.bounds
as_many_bounds net place small taken =
    let number = λ (b : Bound). number_of b.name in
    let many : place ≤ length (map number net.bounds) = le-length_from_below (map number net.bounds) place (λ earlier below. numbered net earlier (omega (arith, small, below)) (taken earlier below)) in
    omega (arith, many, length-map net.bounds number)

-- a name that a bound has is taken, and so are those up to it if those before it are
pub taken_up_to : (net : Plan) (place : ℕ) → ((earlier : ℕ) → earlier < place → IsSome (bound_named net (goal_name earlier))) → IsSome (bound_named net (goal_name place)) → (earlier : ℕ) → earlier < place + 1
    → IsSome (bound_named net (goal_name earlier))
taken_up_to net place before here earlier below =
    elim (cases_lt earlier place) [
      | inl inside ↦ before earlier inside
      | inr past ↦ subst (λ (k : ℕ). IsSome (bound_named net (goal_name k))) (omega (arith, past, below)) here
    ]
