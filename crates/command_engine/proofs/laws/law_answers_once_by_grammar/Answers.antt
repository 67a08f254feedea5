use Rattle.command_engine.proofs.InputLemmas.{answers_text}
use Rattle.command_engine.proofs.laws.law_answers_once_by_grammar.Goals as goal

pub returns : goal.returns
returns g c = λ question input put end runs.
    answers_text g.T.Text.reader g.T.InGrammar.initial_text (g.T.InGrammar.grammar 0) (c.reads_by_grammar.ensures 0) g.Q.Question.answers g.T.Fault.Refusal.refusing question input put end runs
