use Rattle.std.proofs.Common.{◌≡◌, map, take}
use Rattle.labelled_graph.specs.Entries.{edge_into}
use Rattle.labelled_graph.proofs.table.Table.row_into.Given as goal

abbrev pub invariant-loop-entry : goal.invariant-loop-entry
invariant-loop-entry l = l.row.items ≡ map (edge_into l.target) (take l.entry-index l.entries)
