use Rattle.command_engine.proofs.AnswersOnceLemmas.{answers_once_single}
use Rattle.command_engine.proofs.laws.law_answers_once_is_single.Goals as goal

pub returns : goal.returns
returns g c = λ single. answers_once_single g.Q.Question.answers g.T.Text.reader g.T.Fault.Refusal.refusing single
