use Rattle.std.proofs.Common.{◌≡◌}
use Rattle.network_closure.specs.RowTest.{points_below}
use Rattle.network_closure.proofs.table_test.all_points.Given as goal

abbrev pub invariant-loop-point : goal.invariant-loop-point
invariant-loop-point l = l.all.items ≡ points_below l.point
