-- The number of workers, as words say it: the option `--workers`.
use Rattle.std.specs.Prelude.{◌≡◌, ◌⊎◌, ℕ, ◌≤◌, Bool, true, false, List, [], ◌∷◌, ◌++◌, Option, Some, None, codes}
use Rattle.std.specs.Fmt.{decimal}
use Rattle.std.specs.Str.{bytes_eq}
use Rattle.work_board.specs.Limits.{most_seats}
use Rattle.command_words.specs.Arguments.{Arguments, arguments_by, is_given, text_given, operand_texts}
use Rattle.command_words.specs.SpelledWords.{Use, Says}
use Rattle.command_words.specs.Syntax.{Syntax, Text, is_in, is_sound}
use Rattle.command_contracts.specs.Counts.{count_within}

-- how many workers there may be: as many as a board may have seats
abbrev pub most_workers : ℕ
most_workers = most_seats

-- the name of the option
abbrev pub workers_name : Text
workers_name = codes "workers"

-- the number of workers by the value of the option: 1 if it is not given
abbrev pub workers_of : Option Text → Option ℕ
workers_of None = Some 1
workers_of (Some word) = count_within most_workers word

-- so many workers are spelled in two ways: by the name of the option and then the number, or by both as one word with `=` between
abbrev pub SpellsWorkers : ℕ → List Text → Type 0
SpellsWorkers count words =
    (1 ≤ count) × (count ≤ most_workers) × ((words ≡ codes "--workers" ∷ decimal count ∷ []) ⊎ (words ≡ (codes "--workers=" ++ decimal count) ∷ []))

-- the value of the option, if it is given, is a number from 1 to the most, as its decimal
abbrev pub SaysCount : Option Text → Type 0
SaysCount None = Unit {0}
SaysCount (Some text) = (count : ℕ) × (text ≡ decimal count) × (1 ≤ count) × (count ≤ most_workers)

-- the words say uses of this command, and a number of workers or none
pub record SayWithWorkers (command : Syntax) (words : List Text) : Type 0 where
  pub uses : List Use
  pub says : Says command words uses
  pub workers : SaysCount (text_given workers_name uses)

-- uses that say how many workers there are, or nothing of it
abbrev pub HasWorkers : List Use → Type 0
HasWorkers uses = (count : ℕ) × (workers_of (text_given workers_name uses) ≡ Some count)

-- uses that differ in the number of workers alone, which each says or not
pub record DifferInWorkers (uses others : List Use) : Type 0 where
  pub one : HasWorkers uses
  pub other : HasWorkers others
  pub flags : (name : Text) → bytes_eq workers_name name ≡ false → is_given name uses ≡ is_given name others
  pub options : (name : Text) → bytes_eq workers_name name ≡ false → text_given name uses ≡ text_given name others
  pub operands : operand_texts uses ≡ operand_texts others

-- How many workers there are decides nothing of what words ask of this command. `sound`: its syntax is. `no_flag`: it has no flag of that
-- name. `same`: uses that differ in the number of workers alone ask the same.
pub record WorkersDecideNothing {A : Type 0} (command : Syntax) (query : Arguments → Option A) : Type 0 where
  pub sound : ◌≡◌ {A = Bool} (is_sound command) true
  pub no_flag : is_in workers_name command.flags ≡ false
  pub same : (uses others : List Use) → DifferInWorkers uses others → query (arguments_by command uses) ≡ query (arguments_by command others)
