use Rattle.strong_command.proofs.StrongAnswerLemmas.{answer_ends}
use Rattle.strong_command.proofs.strong_question.StrongQuestionPlanQuestion.ends_by_an_answer.Goals as goal

pub returns : goal.returns
returns c = λ query net number put end answered. answer_ends net put end answered
