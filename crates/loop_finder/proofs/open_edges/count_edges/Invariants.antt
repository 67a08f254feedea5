use Rattle.std.proofs.Common.{take}
use Rattle.loop_finder.proofs.OpenLemmas.{DifferByEntries}
use Rattle.loop_finder.proofs.open_edges.count_edges.Given as goal

abbrev pub invariant-loop-entry : goal.invariant-loop-entry
invariant-loop-entry l = DifferByEntries (take l.entry-index l.entries) l.initial.counts.items l.counts.items
