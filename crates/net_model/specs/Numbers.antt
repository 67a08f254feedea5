-- Numbers in texts: no sign but `-`, no leading zero, and `-0` is no number.
use Rattle.std.specs.Prelude.{ℕ, ℤ, pos, neg_ℤ, ◌+◌, ◌-◌, ◌*◌, ◌==◌, ◌&&◌, ◌||◌, Bool, false, List, [], ◌∷◌, Result, Ok, Err, fold, nat_le, nat_lt}
use Rattle.std.specs.Prelude.{if◌then◌else◌}
use Rattle.std.specs.List.{list_all}
use Rattle.std.specs.Str.{bytes_eq}
use Rattle.std.specs.Result.{result_map_both}
use Rattle.net_model.specs.Names.{is_name, is_short_name, is_digit}
use Rattle.net_model.specs.declared.format.FormatKind.{FormatKind}
use Rattle.net_model.specs.declared.format.FormatKind.TheVariants.{BadName, BadNumber, NumberLimit}

-- digits of which the first is not 0
abbrev pub is_positive : List ℕ → Bool
is_positive [] = false
is_positive (digit ∷ digits) = nat_le 49 digit && nat_le digit 57 && list_all is_digit digits

-- the number that digits spell
abbrev pub value_of : List ℕ → ℕ
value_of digits = fold (λ value digit. 10 * value + (digit - 48)) 0 digits

-- within the limit of its place
abbrev pub limited : {A : Type 0} → ℕ → ℕ → A → Result A FormatKind
limited limit size number = if nat_lt limit size then Err NumberLimit else Ok number

-- the word `0`
abbrev pub is_zero : List ℕ → Bool
is_zero word = bytes_eq word (48 ∷ [])

-- a word that spells a whole number from 0: `0`, or digits of which the first is not 0
abbrev pub spells_natural : List ℕ → Bool
spells_natural word = is_zero word || is_positive word

-- a word that spells a whole number: `0`, or digits of which the first is not 0, or `-` and such digits
abbrev pub spells_number : List ℕ → Bool
spells_number [] = false
spells_number (byte ∷ bytes) = if byte == 45 then is_positive bytes else (is_zero (byte ∷ bytes) || is_positive (byte ∷ bytes))

-- the size of the number that a word spells
abbrev pub size_of_number : List ℕ → ℕ
size_of_number [] = 0
size_of_number (byte ∷ bytes) = if byte == 45 then value_of bytes else value_of (byte ∷ bytes)

-- a word in the place of a whole number from 0
unfoldable pub natural_of : ℕ → List ℕ → Result ℕ FormatKind
natural_of limit word =
    if is_zero word then Ok 0
    else (if is_positive word then limited limit (value_of word) (value_of word)
    else Err BadNumber)

-- a word in the place of a whole number below 0, without its sign
abbrev pub negative_of : ℕ → List ℕ → Result ℤ FormatKind
negative_of limit digits =
    if is_positive digits then limited limit (value_of digits) (neg_ℤ (pos (value_of digits))) else Err BadNumber

-- a word in the place of a whole number
unfoldable pub integer_of : ℕ → List ℕ → Result ℤ FormatKind
integer_of limit [] = Err BadNumber
integer_of limit (byte ∷ bytes) =
    if byte == 45 then negative_of limit bytes else result_map_both pos (λ kind. kind) (natural_of limit (byte ∷ bytes))

-- a word in the place of a name
abbrev pub name_of : List ℕ → Result (List ℕ) FormatKind
name_of word = if is_name word then Ok word else Err BadName

-- a word in the place of a name that is short
abbrev pub short_name_of : List ℕ → Result (List ℕ) FormatKind
short_name_of word = if is_short_name word then Ok word else Err BadName
