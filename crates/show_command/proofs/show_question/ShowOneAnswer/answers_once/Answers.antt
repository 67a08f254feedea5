use Rattle.show_command.proofs.ShowLemmas.{show_answers_once}
use Rattle.show_command.proofs.show_question.ShowOneAnswer.answers_once.Goals as goal

pub returns : goal.returns
returns c = λ show net number. show_answers_once show net
