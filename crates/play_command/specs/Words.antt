-- Which words say uses of `play`, and of `forge`.
use Rattle.std.specs.Prelude.{◌≡◌, ◌≤◌, List, [], ◌∷◌}
use Rattle.std.specs.Fmt.{decimal}
use Rattle.situation_player.specs.ForgedParts.{most_tasks}
use Rattle.command_words.specs.Arguments.{operand_texts}
use Rattle.command_words.specs.Syntax.{Syntax, Text}
use Rattle.play_command.specs.ForgeCommand.{most_forge_number}
use Rattle.command_contracts.specs.PlanWords.{SayFormAndWorkers}
use Rattle.command_contracts.specs.WorkerCounts.{SayWithWorkers}
use Rattle.play_command.specs.PlayedSituation.{CanBeNamed, situation_word}
use Rattle.play_command.specs.declared.forged_network.ForgeWords.{ForgeWords}
use Rattle.play_command.specs.declared.plan_day.PlayWords.{PlayWords}

-- the words say uses of this command: the name of this situation, this form of the plan, and a number of workers or none
pub record SayPlay (command : Syntax) (said : PlayWords) (words : List Text) : Type 0 where
  pub say : SayFormAndWorkers command said.form words
  pub operands : operand_texts say.say.uses ≡ situation_word said.which ∷ []
  pub named : CanBeNamed said.which

-- the words say uses of this command: this number, this count of tasks, and a number of workers or none
pub record SayForge (command : Syntax) (said : ForgeWords) (words : List Text) : Type 0 where
  pub say : SayWithWorkers command words
  pub operands : operand_texts say.uses ≡ decimal said.number ∷ decimal said.tasks ∷ []
  pub number : said.number ≤ most_forge_number
  pub tasks : (1 ≤ said.tasks) × (said.tasks ≤ most_tasks)
