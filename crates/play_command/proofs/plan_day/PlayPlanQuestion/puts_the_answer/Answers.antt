use Rattle.play_command.specs.PlayCommand.{PutsTimes}
use Rattle.command_contracts.proofs.PutVerdictLemmas.{verdict_put}
use Rattle.play_command.proofs.plan_day.PlayPlanQuestion.puts_the_answer.Goals as goal

pub returns : goal.returns
returns c = λ words net number put end plan answered. verdict_put net (PutsTimes words.which net put end) put end answered
