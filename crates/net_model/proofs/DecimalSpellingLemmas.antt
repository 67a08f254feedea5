-- Numbers are read from their decimal spelling, and from nothing else.
use Rattle.std.proofs.Common.{◌≡◌, ℕ, ℤ, pos, negsuc, neg_ℤ, ◌<◌, ◌≤◌, ◌+◌, ◌-◌, ◌*◌, ◌^◌, ◌==◌, ◌&&◌, ◌||◌, ◌⊎◌, Bool, true, false, cond, List, [], ◌∷◌, length, get_or, fold, zero, suc, Result, Ok, Err, refl, sym, ap, ◌∙◌, subst, arith}
use Rattle.std.proofs.Common.{rules, nat_le, nat_lt, unsigned_abs, inl, inr}
use Rattle.std.specs.List.{list_all, AllByRecursion}
use Rattle.std.specs.Result.{result_map_both}
use Rattle.texts.proofs.PrintedLineLemmas.{IsPrintable}
use Rattle.std.specs.Fmt.{decimal, signed_decimal}
use Rattle.std.proofs.lemmas.Str.Parse.{IsNumeralModel, IsDigitsTest, FoldsDigits, numerals_by_fold}
use Rattle.std.proofs.lemmas.Fmt.{decimal_digit, decimal_nonempty, first_decimal, digits_decimal, digits_value-decimal, decimal-digits_value}
use Rattle.std.proofs.lemmas.Bool.{cases_lt, lt-leb, ne_eqb, ltb-false, ltb-true, eqb-true, leb-true, and_parts}
use Rattle.std.proofs.lemmas.Slice.Eq.{bytes_eq-Decides}
use Rattle.net_model.specs.Names.{is_digit, is_letter, is_name_byte, is_name}
use Rattle.net_model.specs.Numbers.{is_positive, value_of, limited, is_zero, natural_of, negative_of, integer_of, spells_natural, spells_number, size_of_number}
use Rattle.net_model.specs.declared.format.FormatKind.{FormatKind}
use Rattle.net_model.specs.declared.format.FormatKind.TheVariants.{BadNumber, NumberLimit}

test_by_digits : IsDigitsTest (λ ds. list_all is_digit ds ≡ true)
test_by_digits = search rules

folds : FoldsDigits (λ n ds. fold (λ value digit. 10 * value + (digit - 48)) n ds)
folds = record {
  empty = λ n. refl;
  more = λ n c cs within. ap (λ (v : ℕ). fold (λ value digit. 10 * value + (digit - 48)) v cs) (omega arith);
}

own : IsNumeralModel (λ ds. list_all is_digit ds ≡ true) value_of
own = numerals_by_fold _ test_by_digits _ folds

-- digits of which the first is not 0
positive_by : (digits : List ℕ) → list_all is_digit digits ≡ true → 48 < get_or digits 0 0 → is_positive digits ≡ true
positive_by [] all above = absurd (omega arith)
positive_by (digit ∷ digits) all above = grind arith

positive_digits : (digits : List ℕ) → is_positive digits ≡ true → (list_all is_digit digits ≡ true) × (48 < get_or digits 0 0)
positive_digits [] positive = absurd (cc)
positive_digits (digit ∷ digits) positive = (grind arith, grind arith)

not_zero : (digits : List ℕ) → 48 < get_or digits 0 0 → is_zero digits ≡ false
not_zero [] above = absurd (omega arith)
not_zero (digit ∷ digits) above = grind arith

limited_within : {A : Type 0} (limit size : ℕ) (number : A) → size ≤ limit → limited limit size number ≡ Ok number
limited_within limit size number within = grind arith

-- a spelled number is read
pub natural_spelled : (limit n : ℕ) → n ≤ limit → limit < 2 ^ 64 → natural_of limit (decimal n) ≡ Ok n
unfolding natural_of
natural_spelled limit zero within small = rw (decimal_digit 0 (omega arith)) refl
natural_spelled limit (suc n) within small =
    let above : 48 < get_or (decimal (suc n)) 0 0 = first_decimal (suc n) (omega arith) (omega arith) in
    let digits : list_all is_digit (decimal (suc n)) ≡ true = digits_decimal own (suc n) (omega arith) in
    let value : value_of (decimal (suc n)) ≡ suc n = digits_value-decimal own (suc n) (omega arith) in
    rw (not_zero (decimal (suc n)) above, positive_by (decimal (suc n)) digits above, value) (limited_within limit (suc n) (suc n) within)

natural_first : (limit n byte : ℕ) (bytes : List ℕ) → 47 < byte → natural_of limit (byte ∷ bytes) ≡ Ok n → integer_of limit (byte ∷ bytes) ≡ Ok (pos n)
unfolding integer_of
natural_first limit n byte bytes above read =
    let plain : (byte == 45) ≡ false = ne_eqb byte 45 (λ same. omega arith) in
    rw (plain, read) refl

first_digit : (n : ℕ) → n < 2 ^ 64 → 47 < get_or (decimal n) 0 0
first_digit zero small = rw (decimal_digit 0 (omega arith)) (omega arith)
first_digit (suc n) small = omega (arith, first_decimal (suc n) (omega arith) small)

integer_of_natural : (limit n : ℕ) (word : List ℕ) → 47 < get_or word 0 0 → natural_of limit word ≡ Ok n → integer_of limit word ≡ Ok (pos n)
integer_of_natural limit n [] above read = absurd (omega arith)
integer_of_natural limit n (byte ∷ bytes) above read = natural_first limit n byte bytes above read

-- a spelled number is read
pub integer_spelled : (limit : ℕ) (n : ℤ) → unsigned_abs n ≤ limit → limit < 2 ^ 63 → integer_of limit (signed_decimal n) ≡ Ok n
unfolding integer_of
integer_spelled limit (pos n) within small =
    integer_of_natural limit n (decimal n) (first_digit n (omega arith)) (natural_spelled limit n within (omega arith))
integer_spelled limit (negsuc n) within small =
    let above : 48 < get_or (decimal (suc n)) 0 0 = first_decimal (suc n) (omega arith) (omega arith) in
    let digits : list_all is_digit (decimal (suc n)) ≡ true = digits_decimal own (suc n) (omega arith) in
    let value : value_of (decimal (suc n)) ≡ suc n = digits_value-decimal own (suc n) (omega arith) in
    rw (positive_by (decimal (suc n)) digits above, value) (limited_within limit (suc n) (negsuc n) within)

-- a number within its limit
limited_by : {A : Type 0} (beyond : Bool) (number n : A) → cond beyond (Err NumberLimit) (Ok number) ≡ Ok n → (beyond ≡ false) × (number ≡ n)
limited_by true number n read = absurd (cc)
limited_by false number n read = (refl, cc)

limited_ok : {A : Type 0} (limit size : ℕ) (number n : A) → limited limit size number ≡ Ok n → (size ≤ limit) × (number ≡ n)
limited_ok limit size number n read =
    let parts = limited_by (nat_lt limit size) number n read in
    (ltb-false limit size parts.0, parts.1)

-- the three cases of a word that is read as a number from 0
natural_by : (none positive : Bool) (limit value n : ℕ) → cond none (Ok 0) (cond positive (limited limit value value) (Err BadNumber)) ≡ Ok n → ((none ≡ true) × (0 ≡ n)) ⊎ ((positive ≡ true) × (limited limit value value ≡ Ok n))
natural_by true positive limit value n read = inl (refl, cc)
natural_by false true limit value n read = inr (refl, read)
natural_by false false limit value n read = absurd (cc)

positive_spelling : (digits : List ℕ) → is_positive digits ≡ true → value_of digits < 2 ^ 64 → digits ≡ decimal (value_of digits)
positive_spelling [] positive small = absurd (cc)
positive_spelling (digit ∷ digits) positive small =
    let parts = positive_digits (digit ∷ digits) positive in
    let above : 48 < digit = parts.1 in
    sym (decimal-digits_value own (digit ∷ digits) parts.0 (omega arith) (λ same. absurd (omega arith)) small)

-- what is read as a number from 0 is its spelling
pub spelled_natural : (limit n : ℕ) (word : List ℕ) → natural_of limit word ≡ Ok n → limit < 2 ^ 64 → (word ≡ decimal n) × (n ≤ limit)
unfolding natural_of
spelled_natural limit n word read small =
    elim (natural_by (is_zero word) (is_positive word) limit (value_of word) n read) [
      | inl none ↦
          let zero_word : word ≡ 48 ∷ [] = search (rules, none.0, bytes_eq-Decides) in
          let spelling : decimal 0 ≡ 48 ∷ [] = decimal_digit 0 (omega arith) in
          (subst (λ (k : ℕ). word ≡ decimal k) none.1 (zero_word ∙ sym spelling), omega (arith, none.1))
      | inr some ↦
          let within = limited_ok limit (value_of word) (value_of word) n some.1 in
          let spelling : word ≡ decimal (value_of word) = positive_spelling word some.0 (omega (arith, within.0)) in
          (subst (λ (k : ℕ). word ≡ decimal k) within.1 spelling, omega (arith, within.0, within.1))
    ]

-- a number below 0, by its size
negative_spelling : (limit value : ℕ) (digits : List ℕ) (n : ℤ) → digits ≡ decimal value → 48 < get_or digits 0 0 → value ≤ limit → neg_ℤ (pos value) ≡ n → (45 ∷ digits ≡ signed_decimal n) × (unsigned_abs n ≤ limit)
negative_spelling limit zero digits n spelling above within same =
    let first : get_or digits 0 0 ≡ 48 = ap (λ (ds : List ℕ). get_or ds 0 0) (spelling ∙ decimal_digit 0 (omega arith)) in
    absurd (omega arith)
negative_spelling limit (suc k) digits n spelling above within same =
    (subst (λ (z : ℤ). 45 ∷ digits ≡ signed_decimal z) same (ap (λ (ds : List ℕ). 45 ∷ ds) spelling), subst (λ (z : ℤ). unsigned_abs z ≤ limit) same within)

negative_by : (positive : Bool) (number : Result ℤ FormatKind) (n : ℤ) → cond positive number (Err BadNumber) ≡ Ok n → (positive ≡ true) × (number ≡ Ok n)
negative_by true number n read = (refl, read)
negative_by false number n read = absurd (cc)

spelled_negative : (limit : ℕ) (n : ℤ) (digits : List ℕ) → negative_of limit digits ≡ Ok n → limit < 2 ^ 63 → (45 ∷ digits ≡ signed_decimal n) × (unsigned_abs n ≤ limit)
spelled_negative limit n digits read small =
    let some = negative_by (is_positive digits) (limited limit (value_of digits) (neg_ℤ (pos (value_of digits)))) n read in
    let within = limited_ok limit (value_of digits) (neg_ℤ (pos (value_of digits))) n some.1 in
    negative_spelling limit (value_of digits) digits n (positive_spelling digits some.0 (omega (arith, within.0))) (positive_digits digits some.0).1 within.0 within.1

signed_by : (minus : Bool) (below : Result ℤ FormatKind) (above : Result ℕ FormatKind) (n : ℤ) → cond minus below (result_map_both pos (λ kind. kind) above) ≡ Ok n
    → ((minus ≡ true) × (below ≡ Ok n)) ⊎ ((k : ℕ) × (above ≡ Ok k) × (pos k ≡ n))
signed_by true below above n read = inl (refl, read)
signed_by false below (Ok k) n read = inr (k, refl, cc)
signed_by false below (Err kind) n read = absurd (cc)

-- what is read as a number is its spelling
pub spelled_integer : (limit : ℕ) (n : ℤ) (word : List ℕ) → integer_of limit word ≡ Ok n → limit < 2 ^ 63 → (word ≡ signed_decimal n) × (unsigned_abs n ≤ limit)
unfolding integer_of
spelled_integer limit n [] read small = absurd (cc)
spelled_integer limit n (byte ∷ bytes) read small =
    elim (signed_by (byte == 45) (negative_of limit bytes) (natural_of limit (byte ∷ bytes)) n read) [
      | inl below ↦
          let minus : byte ≡ 45 = eqb-true byte 45 below.0 in
          let spelling = spelled_negative limit n bytes below.1 small in
          (subst (λ (b : ℕ). b ∷ bytes ≡ signed_decimal n) (sym minus) spelling.0, spelling.1)
      | inr above ↦
          let spelling = spelled_natural limit above.0 (byte ∷ bytes) above.1 (omega arith) in
          (subst (λ (z : ℤ). byte ∷ bytes ≡ signed_decimal z) above.2 spelling.0, subst (λ (z : ℤ). unsigned_abs z ≤ limit) above.2 spelling.1)
    ]

-- what a word in the place of a number is, by the answer to it
abbrev pub IsJudged : {A : Type 0} → (limit : ℕ) → (spells : Bool) → (size : ℕ) → Result A FormatKind → Type 0
IsJudged limit spells size (Ok number) = (spells ≡ true) × (size ≤ limit)
IsJudged limit spells size (Err kind) = ((spells ≡ false) × (kind ≡ BadNumber)) ⊎ ((spells ≡ true) × (limit < size) × (kind ≡ NumberLimit))

judged_limit : {A : Type 0} (beyond : Bool) (limit size : ℕ) (number : A) → nat_lt limit size ≡ beyond → IsJudged limit true size (cond beyond (Err NumberLimit) (Ok number))
judged_limit true limit size number is = inr (refl, ltb-true limit size is, refl)
judged_limit false limit size number is = (refl, ltb-false limit size is)

judged_positive : {A : Type 0} (positive : Bool) (limit size : ℕ) (number : A) → IsJudged limit positive size (cond positive (limited limit size number) (Err BadNumber))
judged_positive true limit size number = judged_limit (nat_lt limit size) limit size number refl
judged_positive false limit size number = inl (refl, refl)

judged_natural : (none positive : Bool) (limit size : ℕ) → (none ≡ true → size ≡ 0) → IsJudged limit (none || positive) size (cond none (Ok 0) (cond positive (limited limit size size) (Err BadNumber)))
judged_natural true positive limit size zero_size = (refl, omega (arith, zero_size refl))
judged_natural false positive limit size zero_size = judged_positive positive limit size size

judged_signed : (limit size : ℕ) (spells : Bool) (read : Result ℕ FormatKind) → IsJudged limit spells size read → IsJudged limit spells size (result_map_both pos (λ kind. kind) read)
judged_signed limit size spells (Ok number) judged = judged
judged_signed limit size spells (Err kind) judged = judged

judged_by : (minus positive spells : Bool) (limit below above : ℕ) (number : ℤ) (read : Result ℕ FormatKind) → IsJudged limit spells above read
    → IsJudged limit (cond minus positive spells) (cond minus below above) (cond minus (cond positive (limited limit below number) (Err BadNumber)) (result_map_both pos (λ kind. kind) read))
judged_by true positive spells limit below above number read judged = judged_positive positive limit below number
judged_by false positive spells limit below above number read judged = judged_signed limit above spells read judged

zero_value : (word : List ℕ) → is_zero word ≡ true → value_of word ≡ 0
zero_value word none =
    let zero_word : word ≡ 48 ∷ [] = search (rules, none, bytes_eq-Decides) in
    ap value_of zero_word

-- what a word in the place of a number is
pub judged_integer : (limit : ℕ) (word : List ℕ) → IsJudged limit (spells_number word) (size_of_number word) (integer_of limit word)
unfolding integer_of natural_of
judged_integer limit [] = inl (refl, refl)
judged_integer limit (byte ∷ bytes) =
    let word : List ℕ = byte ∷ bytes in
    judged_by (byte == 45) (is_positive bytes) (is_zero word || is_positive word) limit (value_of bytes) (value_of word) (neg_ℤ (pos (value_of bytes))) (natural_of limit word)
    (judged_natural (is_zero word) (is_positive word) limit (value_of word) (zero_value word))

-- what a word in the place of a number from 0 is
pub judged_natural_word : (limit : ℕ) (word : List ℕ) → IsJudged limit (spells_natural word) (value_of word) (natural_of limit word)
unfolding natural_of
judged_natural_word limit word = judged_natural (is_zero word) (is_positive word) limit (value_of word) (zero_value word)

-- digits are above the blank
plain_digits : (digits : List ℕ) → list_all is_digit digits ≡ true → AllByRecursion (λ byte. 32 < byte) digits
plain_digits [] all = tt
plain_digits (digit ∷ digits) all =
    let parts : (is_digit digit ≡ true) × (list_all is_digit digits ≡ true) = and_parts (is_digit digit) (list_all is_digit digits) all in
    let least : 48 ≤ digit = leb-true 48 digit (and_parts (nat_le 48 digit) (nat_le digit 57) parts.0).0 in
    (omega arith, plain_digits digits parts.1)

pub printable_natural : (n : ℕ) → n < 2 ^ 64 → IsPrintable (decimal n)
printable_natural n small = record {
  filled = decimal_nonempty n small;
  plain = plain_digits (decimal n) (digits_decimal own n small);
}

-- a spelled number is a word
pub printable_integer : (n : ℤ) → unsigned_abs n < 2 ^ 63 → IsPrintable (signed_decimal n)
printable_integer (pos n) small = printable_natural n (omega arith)
printable_integer (negsuc n) small = record {
  filled = omega arith;
  plain = (omega arith, (printable_natural (suc n) (omega arith)).plain);
}

above_blank : (byte : ℕ) → is_name_byte byte ≡ true → 32 < byte
above_blank byte fits =
    elim (cases_lt 32 byte) [
      | inl above ↦ above
      | inr below ↦
          let e65 : nat_le 65 byte ≡ false = lt-leb 65 byte (omega arith) in
          let e97 : nat_le 97 byte ≡ false = lt-leb 97 byte (omega arith) in
          let e48 : nat_le 48 byte ≡ false = lt-leb 48 byte (omega arith) in
          let e95 : (byte == 95) ≡ false = ne_eqb byte 95 (λ same. omega arith) in
          let e45 : (byte == 45) ≡ false = ne_eqb byte 45 (λ same. omega arith) in
          let e46 : (byte == 46) ≡ false = ne_eqb byte 46 (λ same. omega arith) in
          let none : is_name_byte byte ≡ false = rw (e65, e97, e48, e95, e45, e46) refl in
          absurd (cc)
    ]

plain_name : (bytes : List ℕ) → list_all is_name_byte bytes ≡ true → AllByRecursion (λ byte. 32 < byte) bytes
plain_name [] all = tt
plain_name (byte ∷ bytes) all =
    let parts = and_parts (is_name_byte byte) (list_all is_name_byte bytes) all in
    (above_blank byte parts.0, plain_name bytes parts.1)

-- a name is a word
pub printable_name : (name : List ℕ) → is_name name ≡ true → IsPrintable name
unfolding is_name
printable_name [] named = absurd (cc)
printable_name (byte ∷ bytes) named =
    let parts = and_parts (is_letter byte && list_all is_name_byte bytes) (nat_lt (length bytes) 32) named in
    let both = and_parts (is_letter byte) (list_all is_name_byte bytes) parts.0 in
    let first : is_name_byte byte ≡ true = rw both.0 refl in
    record { filled = omega arith; plain = (above_blank byte first, plain_name bytes both.1) }
