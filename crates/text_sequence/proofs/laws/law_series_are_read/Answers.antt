use Rattle.text_sequence.proofs.SeriesLemmas.{series_by}
use Rattle.text_sequence.proofs.laws.law_series_are_read.Goals as goal

pub returns : goal.returns
returns g c = λ separators past. series_by g.O.Separators.between g.O.Text.Text.reader g.O.Separators.initial_text g.O.Separators.texts c.reads_by_grammar.ensures separators past
