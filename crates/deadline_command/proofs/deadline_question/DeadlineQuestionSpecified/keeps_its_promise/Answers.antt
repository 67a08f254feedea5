use Rattle.deadline_command.proofs.DeadlineAnswerLemmas.{deadline_keeps}
use Rattle.deadline_command.proofs.deadline_question.DeadlineQuestionSpecified.keeps_its_promise.Goals as goal

pub returns : goal.returns
returns c = deadline_keeps
