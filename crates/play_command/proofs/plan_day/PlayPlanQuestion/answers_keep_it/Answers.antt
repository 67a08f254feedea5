use Rattle.play_command.proofs.PlayLemmas.{play_keeps}
use Rattle.play_command.proofs.plan_day.PlayPlanQuestion.answers_keep_it.Goals as goal

pub returns : goal.returns
returns c = λ words input put end text. play_keeps words input put end text
