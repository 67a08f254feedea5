use Rattle.command_engine.proofs.AnswersOnceLemmas.{runs_are}
use Rattle.command_engine.proofs.laws.law_answers_once_runs.Goals as goal

pub returns : goal.returns
returns g c = λ question text input put end runs.
    runs_are g.Q.Question.answers g.T.Text.reader g.T.Fault.Refusal.refusing question text input put end runs
