use Rattle.play_command.proofs.PlayEndLemmas.{played_answers}
use Rattle.play_command.proofs.plan_day.PlayPlanQuestion.ends_by_an_answer.Goals as goal

pub returns : goal.returns
returns c = played_answers
