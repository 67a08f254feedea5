use Rattle.std.proofs.Common.{ℕ}
use Rattle.command_engine.proofs.TestedTextLemmas.{tested_by}
use Rattle.command_engine.proofs.tested_texts.law_tested_texts_are_read.Goals as goal

pub returns : goal.returns
returns g c = λ test past. tested_by g.T.Text.reader g.Q.Test.tests test g.T.InGrammar.initial_text past (g.T.InGrammar.grammar past) (c.reads_by_grammar.ensures past)
