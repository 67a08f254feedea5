-- The names of forged networks: letters with numbers, distinguished by their letter and their number.
use Rattle.std.proofs.Common.{◌≡◌, ℕ, ◌+◌, ◌*◌, ◌^◌, ◌<◌, ◌==◌, ◌&&◌, true, List, [], ◌∷◌, ◌++◌, length, nat_lt, refl, sym, arith, rules}
use Rattle.std.specs.Prelude.{codes, if◌then◌else◌}
use Rattle.std.specs.List.{list_all}
use Rattle.std.specs.Fmt.{decimal}
use Rattle.std.specs.Str.Parse.{digits_value}
use Rattle.std.proofs.lemmas.Bool.{and_from, and_parts, lt-ltb, true≢false}
use Rattle.std.proofs.lemmas.Fmt.{digits_decimal, digits_value-decimal, length-decimal-le}
use Rattle.std.proofs.lemmas.Str.Parse.{IsNumeralModel, IsDigitsTest, numerals_by_value}
use Rattle.net_model.specs.Names.{is_digit, is_letter, is_name_byte, is_name}
use Rattle.situation_player.specs.ForgedParts.{is_one_letter, start_name, end_name, watch_name}

test_by_digits : IsDigitsTest (λ ds. list_all is_digit ds ≡ true)
test_by_digits = search rules

own : IsNumeralModel (λ ds. list_all is_digit ds ≡ true) (digits_value 10)
own = numerals_by_value (λ ds. list_all is_digit ds ≡ true) test_by_digits

pub decimal_value : (n : ℕ) → n < 2 ^ 64 → digits_value 10 (decimal n) ≡ n
decimal_value n small = digits_value-decimal own n small

digit_is_byte : (b : ℕ) → is_digit b ≡ true → is_name_byte b ≡ true
digit_is_byte b digit = rw digit (grind arith)

digits_are_bytes : (ds : List ℕ) → list_all is_digit ds ≡ true → list_all is_name_byte ds ≡ true
digits_are_bytes [] all = refl
digits_are_bytes (d ∷ ds) all =
    let (here, rest) = and_parts (is_digit d) (list_all is_digit ds) all in
    and_from (is_name_byte d) (list_all is_name_byte ds) (digit_is_byte d here) (digits_are_bytes ds rest)

-- a letter with a number is a name
pub numbered_is_name : (text : List ℕ) (n : ℕ) → is_one_letter text ≡ true → n < 2 ^ 32 → is_name (text ++ decimal n) ≡ true
unfolding is_name
numbered_is_name [] n letter small = absurd (true≢false (sym letter))
numbered_is_name (b ∷ c ∷ bs) n letter small = absurd (true≢false (sym letter))
numbered_is_name (b ∷ []) n letter small =
    let bytes : list_all is_name_byte (decimal n) ≡ true = digits_are_bytes (decimal n) (digits_decimal own n (omega arith)) in
    let short = length-decimal-le 10 n (omega arith) (omega arith) (omega arith) in
    and_from (is_letter b && list_all is_name_byte (decimal n)) (nat_lt (length (decimal n)) 32) (and_from (is_letter b) (list_all is_name_byte (decimal n)) letter bytes)
    (lt-ltb (length (decimal n)) 32 (omega (arith, short)))

-- ---- the places of points, and of bounds
abbrev pub letter_of : List ℕ → ℕ
letter_of [] = 0
letter_of (b ∷ bs) = b

abbrev pub number_of : List ℕ → ℕ
number_of [] = 0
number_of (b ∷ bs) = digits_value 10 bs

-- where a point stands among the points
abbrev pub point_rank : List ℕ → ℕ
point_rank name = 3 * number_of name + (if letter_of name == 115 then 0 else if letter_of name == 101 then 1 else 2)

pub start_rank : (i : ℕ) → i < 2 ^ 64 → point_rank (start_name i) ≡ 3 * i
start_rank i small = let value = decimal_value i small in omega (arith, value)

pub end_rank : (i : ℕ) → i < 2 ^ 64 → point_rank (end_name i) ≡ 3 * i + 1
end_rank i small = let value = decimal_value i small in omega (arith, value)

pub watch_rank : (i : ℕ) → i < 2 ^ 64 → point_rank (watch_name i) ≡ 3 * i + 2
watch_rank i small = let value = decimal_value i small in omega (arith, value)

-- the bounds of the watches come first, by task, then those from a task to the next, then the deadline
abbrev pub bound_rank : List ℕ → ℕ
bound_rank name =
    if letter_of name == 118 then 2 * number_of name
    else if letter_of name == 117 then 2 * number_of name + 1
    else if letter_of name == 103 then 1000 + 2 * number_of name
    else if letter_of name == 104 then 1000 + 2 * number_of name + 1
    else 2000

pub v_rank : (i : ℕ) → i < 2 ^ 64 → bound_rank (codes "v" ++ decimal i) ≡ 2 * i
v_rank i small = let value = decimal_value i small in omega (arith, value)

pub u_rank : (i : ℕ) → i < 2 ^ 64 → bound_rank (codes "u" ++ decimal i) ≡ 2 * i + 1
u_rank i small = let value = decimal_value i small in omega (arith, value)

pub g_rank : (i : ℕ) → i < 2 ^ 64 → bound_rank (codes "g" ++ decimal i) ≡ 1000 + 2 * i
g_rank i small = let value = decimal_value i small in omega (arith, value)

pub h_rank : (i : ℕ) → i < 2 ^ 64 → bound_rank (codes "h" ++ decimal i) ≡ 1000 + 2 * i + 1
h_rank i small = let value = decimal_value i small in omega (arith, value)

pub deadline_rank : bound_rank (codes "dl") ≡ 2000
deadline_rank = refl

pub deadline_is_name : is_name (codes "dl") ≡ true
unfolding is_name
deadline_is_name = refl
