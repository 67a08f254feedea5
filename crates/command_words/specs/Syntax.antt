-- Which words a command takes after its own: a line of data.
use Rattle.std.specs.Prelude.{ℕ, ◌==◌, ◌&&◌, Bool, true, false, not, List, [], ◌∷◌, ◌++◌, length, codes, nat_lt}
use Rattle.std.specs.List.{list_all, list_any}
use Rattle.std.specs.Str.{bytes_eq}

-- a word, by its bytes
abbrev pub Text : Type 0
Text = List ℕ

-- the names of a command's flags, of its options, which have a value, and of its operands in their order
pub record Syntax : Type 0 where
  pub flags : List Text
  pub options : List Text
  pub operands : List Text

-- a name is among these
abbrev pub is_in : Text → List Text → Bool
is_in name names = list_any (λ n. bytes_eq n name) names

-- no name comes twice
abbrev pub are_apart : List Text → Bool
are_apart [] = true
are_apart (name ∷ names) = not (is_in name names) && are_apart names

-- two hyphens and then this
abbrev pub dashed : Text → Text
dashed name = 45 ∷ 45 ∷ name

-- the words that ask for help or for a version
abbrev pub asks : Text → Bool
asks word = is_in word (codes "--help" ∷ codes "--version" ∷ [])

-- the name of a flag or of an option has a byte, has no `=` (61), and is not one of those words
abbrev pub is_option_name : Text → Bool
is_option_name [] = false
is_option_name (b ∷ bs) = not (list_any (λ x. x == 61) (b ∷ bs)) && not (asks (dashed (b ∷ bs)))

-- A syntax is sound if no name comes twice, flags and options have names that can be spelled, and the operands are fewer than 10.
abbrev pub is_sound : Syntax → Bool
is_sound command = are_apart (command.flags ++ (command.options ++ command.operands))
    && (nat_lt (length command.operands) 10 && (list_all is_option_name command.flags && list_all is_option_name command.options))
