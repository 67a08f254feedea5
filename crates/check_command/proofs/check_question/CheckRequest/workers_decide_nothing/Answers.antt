use Rattle.check_command.proofs.CheckWordLemmas.{workers_decide_no_flag}
use Rattle.check_command.proofs.check_question.CheckRequest.workers_decide_nothing.Goals as goal

pub returns : goal.returns
returns c = workers_decide_no_flag
