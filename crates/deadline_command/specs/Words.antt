-- Which words say uses of `deadline`.
use Rattle.std.specs.Prelude.{◌≡◌, List, [], ◌∷◌, IsTrue}
use Rattle.net_model.specs.Names.{is_name}
use Rattle.command_words.specs.Arguments.{is_given, operand_texts}
use Rattle.command_words.specs.Syntax.{Syntax, Text}
use Rattle.command_contracts.specs.WorkerCounts.{SayWithWorkers}
use Rattle.input_texts.specs.PlanInput.{json_name, notation_by}
use Rattle.deadline_command.specs.declared.points.DeadlineWords.{DeadlineWords}

-- the words say uses of this command: these two names, this notation of the plan, and a number of workers or none
pub record SayDeadline (command : Syntax) (said : DeadlineWords) (words : List Text) : Type 0 where
  pub say : SayWithWorkers command words
  pub notation : notation_by (is_given json_name say.uses) ≡ said.notation
  pub operands : operand_texts say.uses ≡ said.from ∷ said.to ∷ []
  pub from : IsTrue (is_name said.from)
  pub to : IsTrue (is_name said.to)
