-- What words give to a command.
use Rattle.std.specs.Prelude.{◌≡◌, Some, None, ℕ, Bool, false, List, [], ◌∷◌, map, Option, find, slice_get}
use Rattle.std.specs.Option.{option_and_then, unwrap_or}
use Rattle.std.specs.List.{list_any}
use Rattle.std.specs.Str.{bytes_eq}
use Rattle.command_words.specs.Syntax.{Syntax, Text}
use Rattle.command_words.specs.SpelledWords.{Use, flag, valued, operand, name_of, text_of, Says}

-- which flags are given, the value of each option that is given, and the texts of the operands, each in the command's order
pub record Arguments : Type 0 where
  pub flags : List Bool
  pub options : List (Option Text)
  pub operands : List Text

-- the flag at this place is given; none is beyond the end
abbrev pub flag_at : ℕ → Arguments → Bool
flag_at place arguments = unwrap_or (slice_get arguments.flags place) false

-- the value of the option at this place, if it is given
abbrev pub option_at : ℕ → Arguments → Option Text
option_at place arguments = option_and_then (λ text. text) (slice_get arguments.options place)

-- the text of the operand at this place; there is none beyond the end
abbrev pub operand_at : ℕ → Arguments → Option Text
operand_at place arguments = slice_get arguments.operands place

-- a use of this name is given
abbrev pub is_given : Text → List Use → Bool
is_given name uses = list_any (λ u. bytes_eq (name_of u) name) uses

-- the text of the use of a name, if one is given and has a text
abbrev pub text_given : Text → List Use → Option Text
text_given name uses = option_and_then text_of (find (λ u. bytes_eq (name_of u) name) uses)

-- the texts of the operands that are given, in their order
abbrev pub operand_texts : List Use → List Text
operand_texts [] = []
operand_texts (flag name ∷ uses) = operand_texts uses
operand_texts (valued name text ∷ uses) = operand_texts uses
operand_texts (operand name text ∷ uses) = text ∷ operand_texts uses

-- what these uses give to the command
abbrev pub arguments_by : Syntax → List Use → Arguments
arguments_by command uses = record {
  flags = map (λ name. is_given name uses) command.flags;
  options = map (λ name. text_given name uses) command.options;
  operands = operand_texts uses;
}

-- the words mean these arguments: they say uses of the command that give them
abbrev pub Means : Syntax → List Text → Arguments → Type 0
Means command words arguments = (uses : List Use) × Says command words uses × (arguments ≡ arguments_by command uses)

-- the words mean this, or they mean nothing
abbrev pub IsMeaning : Syntax → List Text → Option Arguments → Type 0
IsMeaning command words (Some arguments) = Means command words arguments
IsMeaning command words None = (arguments : Arguments) → Means command words arguments → ⊥
