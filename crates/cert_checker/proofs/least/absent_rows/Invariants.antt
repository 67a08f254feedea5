use Rattle.std.proofs.Common.{◌≡◌, replicate}
use Rattle.cert_checker.specs.Least.{absent}
use Rattle.cert_checker.proofs.least.absent_rows.Given as goal

abbrev pub invariant-loop-row : goal.invariant-loop-row
invariant-loop-row l = l.rows.items ≡ replicate l._row (replicate l.points absent)
