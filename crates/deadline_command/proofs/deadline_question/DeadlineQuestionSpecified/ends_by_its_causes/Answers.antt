use Rattle.deadline_command.proofs.DeadlineAnswerLemmas.{deadline_ends}
use Rattle.deadline_command.proofs.deadline_question.DeadlineQuestionSpecified.ends_by_its_causes.Goals as goal

pub returns : goal.returns
returns c = λ words holds input put end runs. deadline_ends words input put end runs
