use Rattle.std.proofs.Common.{take}
use Rattle.loop_finder.proofs.OpenLemmas.{DifferByEntries, FreedByEntries}
use Rattle.loop_finder.proofs.open_edges.close_edges.Given as goal

abbrev pub invariant-loop-entry : goal.invariant-loop-entry
invariant-loop-entry l = DifferByEntries (take l.entry-index l.entries) l.left.items l.initial.left.items × FreedByEntries (take l.entry-index l.entries) l.left.items l.initial.free l.free
