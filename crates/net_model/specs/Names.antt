-- The names of points and bounds.
use Rattle.std.specs.Prelude.{ℕ, ◌-◌, ◌==◌, ◌&&◌, ◌||◌, Bool, false, List, [], ◌∷◌, ◌++◌, length, nat_le, nat_lt, replicate}
use Rattle.std.specs.Cmp.Lexicographic.{slice_cmp}
use Rattle.std.specs.List.{list_all}
use Rattle.std.specs.Ordering.{nat_cmp, on, then_cmp}
use Rattle.std.specs.declared.cmp.Ordering.{Ordering}

-- a letter of ASCII, large or small
abbrev pub is_letter : ℕ → Bool
is_letter b = (nat_le 65 b && nat_le b 90) || (nat_le 97 b && nat_le b 122)

-- a digit of ASCII
abbrev pub is_digit : ℕ → Bool
is_digit b = nat_le 48 b && nat_le b 57

-- a byte that may stand in a name: a letter, a digit, `_`, `-` or `.`
abbrev pub is_name_byte : ℕ → Bool
is_name_byte b = is_letter b || is_digit b || b == 95 || b == 45 || b == 46

-- a name: 1 to 32 such bytes, of which the first is a letter
unfoldable pub is_name : List ℕ → Bool
is_name [] = false
is_name (b ∷ bs) = is_letter b && list_all is_name_byte bs && nat_lt (length bs) 32

-- the greatest number of bytes of a name to which four more may be added
abbrev pub most_short : ℕ
most_short = 28

-- a short name: a name of at most so many bytes
abbrev pub is_short_name : List ℕ → Bool
is_short_name word = is_name word && nat_le (length word) most_short

-- the bytes of a name, and then zeros up to 32 bytes
abbrev pub padded : List ℕ → List ℕ
padded bytes = bytes ++ replicate (32 - length bytes) 0

-- the order of names: short ones first, and those of one length by their bytes
abbrev pub name_cmp : List ℕ → List ℕ → Ordering
name_cmp = then_cmp (on length nat_cmp) (slice_cmp nat_cmp)
