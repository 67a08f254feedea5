use Rattle.command_engine.proofs.AnswersOnceLemmas.{wants_before_answer}
use Rattle.command_engine.proofs.laws.law_answers_once_wants.Goals as goal

pub returns : goal.returns
returns g c = λ question text input untaken put pieces breaks.
    wants_before_answer g.Q.Question.answers g.T.Text.reader g.T.Fault.Refusal.refusing question text input untaken put pieces breaks
