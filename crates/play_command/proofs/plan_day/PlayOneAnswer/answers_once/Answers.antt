use Rattle.play_command.proofs.PlayLemmas.{play_answers_once}
use Rattle.play_command.proofs.plan_day.PlayOneAnswer.answers_once.Goals as goal

pub returns : goal.returns
returns c = λ words net number. play_answers_once c.law_at_most_one_earliest.ensures words net
