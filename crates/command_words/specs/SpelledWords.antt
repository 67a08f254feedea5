-- The words that spell flags, options and operands. No reader and no library is named here. The names of kinds of words are those of POSIX (utility syntax
-- guidelines), the spelling by `--NAME` and `--NAME=VALUE` that of GNU.
use Rattle.std.specs.Prelude.{◌≡◌, ◌⊎◌, ◌==◌, Bool, true, not, List, [], ◌∷◌, ◌++◌, map, Option, Some, None}
use Rattle.std.specs.Bool.{⊤}
use Rattle.command_words.specs.Syntax.{Syntax, Text, are_apart, dashed, is_in}

-- what one word or two words give: a flag, an option with its value, or an operand with its text, each by its name
pub data Use : Type 0 where
  flag : Text → Use
  valued : Text → Text → Use
  operand : Text → Text → Use

-- the name of what is used
abbrev pub name_of : Use → Text
name_of (flag name) = name
name_of (valued name text) = name
name_of (operand name text) = name

-- its value or its text, if it has one
abbrev pub text_of : Use → Option Text
text_of (flag name) = None
text_of (valued name text) = Some text
text_of (operand name text) = Some text

-- the word does not begin with a hyphen (45)
abbrev pub is_plain : Text → Bool
is_plain [] = true
is_plain (b ∷ bs) = not (b == 45)

-- A flag is spelled by its name. An option is spelled either by its name and then a word that is the value, or by both as one word with `=` (61) between. An
-- operand is spelled by its text. A value or an operand that is a word of its own does not begin with a hyphen.
abbrev pub Spells : Use → List Text → Type 0
Spells (flag name) words = words ≡ dashed name ∷ []
Spells (valued name text) words = ((words ≡ dashed name ∷ text ∷ []) × (is_plain text ≡ true)) ⊎ (words ≡ dashed (name ++ 61 ∷ text) ∷ [])
Spells (operand name text) words = (words ≡ text ∷ []) × (is_plain text ≡ true)

-- the words spell these uses, one after another
abbrev pub SpellsAll : List Use → List Text → Type 0
SpellsAll [] words = words ≡ []
SpellsAll (one ∷ uses) words = (first : List Text) × (rest : List Text) × (words ≡ first ++ rest) × Spells one first × SpellsAll uses rest

-- the command has what is used
abbrev pub IsOf : Syntax → Use → Type 0
IsOf command (flag name) = is_in name command.flags ≡ true
IsOf command (valued name text) = is_in name command.options ≡ true
IsOf command (operand name text) = is_in name command.operands ≡ true

-- the command has all that is used
abbrev pub AreOf : Syntax → List Use → Type 0
AreOf command [] = ⊤
AreOf command (u ∷ uses) = IsOf command u × AreOf command uses

-- the names of the operands, in the order in which they are given
abbrev pub operand_names : List Use → List Text
operand_names [] = []
operand_names (flag name ∷ uses) = operand_names uses
operand_names (valued name text ∷ uses) = operand_names uses
operand_names (operand name text ∷ uses) = name ∷ operand_names uses

-- The words say these uses of the command, in any order: each flag and each option at most once, and the operands all, in their order.
pub record Says (command : Syntax) (words : List Text) (uses : List Use) : Type 0 where
  pub spelled : SpellsAll uses words
  pub known : AreOf command uses
  pub once : are_apart (map name_of uses) ≡ true
  pub operands : operand_names uses ≡ command.operands
