use Rattle.strong_command.proofs.KeepLemmas.{strong_keeps}
use Rattle.strong_command.proofs.strong_question.StrongQuestionPlanQuestion.answers_keep_it.Goals as goal

pub returns : goal.returns
returns c = λ query input put end text. strong_keeps query input put end text
