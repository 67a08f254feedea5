use Rattle.std.proofs.Common.{◌≡◌, map}
use Rattle.std.specs.List.{range_with_len}
use Rattle.labelled_graph.specs.Rows.{empty_row}
use Rattle.labelled_graph.proofs.table.empty_rows.Given as goal

abbrev pub invariant-loop-point : goal.invariant-loop-point
invariant-loop-point l = l.rows.items ≡ map empty_row (range_with_len 0 l.point)
