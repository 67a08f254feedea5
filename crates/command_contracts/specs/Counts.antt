-- Whole numbers in words: those of texts (net_model, Numbers), up to a limit.
use Rattle.std.specs.Prelude.{ℕ, ◌==◌, Option, Some, None, Result, Ok, Err, if◌then◌else◌}
use Rattle.net_model.specs.Numbers.{natural_of}
use Rattle.net_model.specs.declared.format.FormatKind.{FormatKind}
use Rattle.command_words.specs.Syntax.{Text}

-- a number from 0, from what a word says as a number
abbrev pub number_if_any : Result ℕ FormatKind → Option ℕ
number_if_any (Ok number) = Some number
number_if_any (Err kind) = None

-- the number that a word is, from 0 up to a limit
abbrev pub number_within : (most : ℕ) → Text → Option ℕ
number_within most word = number_if_any (natural_of most word)

-- a count from 1, from what a word says as a number
abbrev pub count_in : Result ℕ FormatKind → Option ℕ
count_in (Ok count) = if count == 0 then None else Some count
count_in (Err kind) = None

-- the count that a word is, from 1 up to a limit
abbrev pub count_within : (most : ℕ) → Text → Option ℕ
count_within most word = count_in (natural_of most word)
