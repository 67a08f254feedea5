use Rattle.std.proofs.Common.{◌≡◌, None, replicate}
use Rattle.network_closure.proofs.dense.absent_rows.Given as goal

abbrev pub invariant-loop-row : goal.invariant-loop-row
invariant-loop-row l = l.rows.items ≡ replicate l._row (replicate l.points None)
