use Rattle.forward_closure.specs.SparseRows.{AreRowsAmong}
use Rattle.forward_closure.proofs.RowLemmas.{IsAddedUntil}
use Rattle.forward_closure.proofs.sparse_rows.SparseRows.add_row.Given as goal

abbrev pub invariant-loop-entry : goal.invariant-loop-entry
invariant-loop-entry l = AreRowsAmong l.net l.table (IsAddedUntil l.to l.entry-items l.entry-index) l.self
