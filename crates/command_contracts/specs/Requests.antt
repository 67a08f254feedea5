-- What the words ask of a command, and the program of it.
use Rattle.std.specs.Prelude.{◌≡◌, ℕ, List, [], ◌∷◌, codes, Option, Some, None}
use Rattle.std.specs.Option.{option_and_then}
use Rattle.texts.specs.PrintedLines.{printed_line}
use Rattle.command_words.specs.Arguments.{Arguments}
use Rattle.command_words.specs.ArgumentReading.{arguments_of}
use Rattle.command_words.specs.Syntax.{Syntax, Text}
use Rattle.command_contracts.specs.Programs.{Program, prints}
use Rattle.command_contracts.specs.declared.no_input.NoInputEnd.{NoInputEnd}
use Rattle.command_contracts.specs.declared.no_input.NoInputEnd.TheVariants.{WordsRefused}

-- the line that refuses words
abbrev pub RefusesWords : List ℕ → NoInputEnd → Type 0
RefusesWords put end = (put ≡ printed_line (codes "error" ∷ codes "words" ∷ [])) × (end ≡ WordsRefused)

-- the program that refuses the words
abbrev pub refuses_words : Program
refuses_words = prints RefusesWords

-- the program of the request, if the words make one
abbrev pub program_of_request : {A : Type 0} → (A → Program) → Option A → Program
program_of_request program (Some query) = program query
program_of_request program None = refuses_words

-- What the words after that of a command ask of it, by its syntax and what its arguments ask. Nothing is asked if the words are not those of the command, or a
-- value is none that it takes.
abbrev pub requested_by : {A : Type 0} → Syntax → (Arguments → Option A) → List Text → Option A
requested_by command query words = option_and_then query (arguments_of command words)

-- the program of the words after that of a command
abbrev pub program_by : {A : Type 0} → Syntax → (Arguments → Option A) → (A → Program) → List Text → Program
program_by command query program words = program_of_request program (requested_by command query words)
