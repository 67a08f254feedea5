use Rattle.cell_table.proofs.FillLemmas.{AreFirstWordsOf}
use Rattle.cell_table.proofs.table_words.words_of.Given as goal

abbrev pub invariant-loop-place : goal.invariant-loop-place
invariant-loop-place l = AreFirstWordsOf l.table l.place l.words.items
