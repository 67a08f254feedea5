use Rattle.command_engine.proofs.PairGrammarLemmas.{pair_by}
use Rattle.command_engine.proofs.pairs.ThenValueInGrammar.reads_by_grammar.Goals as goal

pub returns : goal.returns
returns g c = λ past.
    pair_by g.A.Text.reader g.B.Text.reader g.B.InGrammar.initial_text g.A.InGrammar.initial_text past (g.A.InGrammar.grammar past) g.B.InGrammar.grammar (c.reads_by_grammar.ensures past) c.reads_by_grammar-2.ensures
