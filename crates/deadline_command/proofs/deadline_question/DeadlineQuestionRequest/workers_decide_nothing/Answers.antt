use Rattle.deadline_command.proofs.DeadlineWordLemmas.{workers_decide_no_deadline}
use Rattle.deadline_command.proofs.deadline_question.DeadlineQuestionRequest.workers_decide_nothing.Goals as goal

pub returns : goal.returns
returns c = workers_decide_no_deadline
