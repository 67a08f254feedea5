use Rattle.std.proofs.Common.{◌<◌}
use Rattle.forward_closure.specs.SparseRows.{AreRowsAmong}
use Rattle.forward_closure.proofs.sparse_rows.SparseRows.of.Given as goal

abbrev pub invariant-loop-to : goal.invariant-loop-to
invariant-loop-to l = AreRowsAmong l.net l.table (λ edge. edge.to.0 < l.to) l.rows
