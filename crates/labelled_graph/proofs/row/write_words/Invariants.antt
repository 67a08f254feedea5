use Rattle.std.proofs.Common.{◌≡◌, take}
use Rattle.labelled_graph.specs.MergedRows.{words_set}
use Rattle.labelled_graph.proofs.row.write_words.Given as goal

abbrev pub invariant-loop-entry : goal.invariant-loop-entry
invariant-loop-entry l = l.ordinary ≡ words_set l.initial.ordinary (take l.entry-index l.new)
