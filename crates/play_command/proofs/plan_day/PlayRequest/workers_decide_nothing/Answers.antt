use Rattle.play_command.proofs.PlayWordLemmas.{workers_decide_no_day}
use Rattle.play_command.proofs.plan_day.PlayRequest.workers_decide_nothing.Goals as goal

pub returns : goal.returns
returns c = workers_decide_no_day
