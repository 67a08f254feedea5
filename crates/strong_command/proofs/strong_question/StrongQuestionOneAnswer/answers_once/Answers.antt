use Rattle.strong_command.proofs.StrongAnswerLemmas.{strong_answers_once}
use Rattle.strong_command.proofs.strong_question.StrongQuestionOneAnswer.answers_once.Goals as goal

pub returns : goal.returns
returns c = λ query net number. strong_answers_once c.law_strong_answer_is_one.ensures net
