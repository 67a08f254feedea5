-- The number that digits spell only grows with more of them.
use Rattle.std.proofs.Common.{◌≡◌, ℕ, ◌≤◌, ◌+◌, ◌-◌, ◌*◌, List, [], ◌∷◌, ◌++◌, take, drop, fold, ap, arith}
use Rattle.std.proofs.lemmas.List.{take-append-drop}
use Rattle.std.proofs.lemmas.Grind.{fold-append}
use Rattle.net_model.specs.Numbers.{value_of}

-- one digit more
abbrev with_digit : ℕ → ℕ → ℕ
with_digit value digit = 10 * value + (digit - 48)

fold_at_least : (value : ℕ) (digits : List ℕ) → value ≤ fold with_digit value digits
fold_at_least value [] = omega arith
fold_at_least value (digit ∷ digits) = omega (arith, fold_at_least (with_digit value digit) digits)

-- a prefix of digits spells at most what all of them do
pub value_of-take : (n : ℕ) (digits : List ℕ) → value_of (take n digits) ≤ value_of digits
value_of-take n digits =
    let parts : value_of (take n digits ++ drop n digits) ≡ fold with_digit (value_of (take n digits)) (drop n digits) = fold-append with_digit 0 (take n digits) (drop n digits) in
    let whole : value_of (take n digits ++ drop n digits) ≡ value_of digits = ap value_of (take-append-drop n digits) in
    omega (arith, fold_at_least (value_of (take n digits)) (drop n digits))
