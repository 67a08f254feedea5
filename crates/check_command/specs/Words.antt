-- Which words say uses of `check`.
use Rattle.std.specs.Prelude.{◌≡◌, List}
use Rattle.command_words.specs.Arguments.{is_given, text_given}
use Rattle.command_words.specs.Syntax.{Syntax, Text}
use Rattle.command_contracts.specs.PlanWords.{SayFormAndWorkers}
use Rattle.check_command.specs.CheckAnswers.{proof_name}
use Rattle.check_command.specs.Engines.{SaysEngine, engine_name}
use Rattle.check_command.specs.declared.check_question.CheckFlags.{CheckFlags}

-- the words say uses of this command: these flags of `check` and this engine, and a number of workers or none
pub record SayCheckFlags (command : Syntax) (flags : CheckFlags) (words : List Text) : Type 0 where
  pub say : SayFormAndWorkers command flags.form words
  pub proof : is_given proof_name say.say.uses ≡ flags.proof
  pub engine : SaysEngine (text_given engine_name say.say.uses) flags.engine
