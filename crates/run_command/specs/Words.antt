-- Which words say uses of `run`, and which spell a number of feeders.
use Rattle.std.specs.Prelude.{◌≡◌, ◌⊎◌, ℕ, ◌≤◌, List, [], ◌∷◌, ◌++◌, codes, Option, Some, None}
use Rattle.std.specs.Fmt.{decimal}
use Rattle.desk_feeding.specs.Fed.{most_feeders}
use Rattle.command_words.specs.Arguments.{text_given}
use Rattle.command_words.specs.Syntax.{Syntax, Text}
use Rattle.command_contracts.specs.PlanWords.{SayFormAndWorkers}
use Rattle.event_phase.specs.CompletionOrders.{CompletionOrder, as_named, in_order}
use Rattle.run_command.specs.RunCommand.{RunForm, feeders_name}

-- Without the value of the option points are passed on as a line names them; if it is given, it is a number from 1 to the most, as its decimal, and they are
-- passed on in the order of their numbers.
abbrev pub SaysFeeders : Option Text → CompletionOrder → Type 0
SaysFeeders None completion_order = completion_order ≡ as_named
SaysFeeders (Some text) completion_order =
    (count : ℕ) × (text ≡ decimal count) × (1 ≤ count) × (count ≤ most_feeders) × (completion_order ≡ in_order)

-- the words say uses of this command: this form of the plan, a number of workers or none, and a number of feeders or none
pub record SayRun (command : Syntax) (query : RunForm) (words : List Text) : Type 0 where
  pub say : SayFormAndWorkers command query.form words
  pub feeders : SaysFeeders (text_given feeders_name say.say.uses) query.completion_order

-- so many feeders are spelled in two ways: by the name of the option and then the number, or by both as one word with `=` between
abbrev pub SpellsFeeders : ℕ → List Text → Type 0
SpellsFeeders count words =
    (1 ≤ count) × (count ≤ most_feeders) × ((words ≡ codes "--feeders" ∷ decimal count ∷ []) ⊎ (words ≡ (codes "--feeders=" ++ decimal count) ∷ []))
