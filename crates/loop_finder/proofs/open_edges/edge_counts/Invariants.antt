use Rattle.loop_finder.specs.OpenEdges.{AreCountsTo}
use Rattle.loop_finder.proofs.open_edges.edge_counts.Given as goal

abbrev pub invariant-loop-to : goal.invariant-loop-to
invariant-loop-to l = AreCountsTo l.table l.to l.counts.items
