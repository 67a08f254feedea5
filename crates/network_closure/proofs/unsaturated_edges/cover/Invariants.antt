use Rattle.network_closure.specs.RowTest.{AreCovered}
use Rattle.network_closure.proofs.unsaturated_edges.cover.Given as goal

abbrev pub invariant-loop-from : goal.invariant-loop-from
invariant-loop-from l = AreCovered l.net l.table l.edge.to l.edge.label l.covered.items
