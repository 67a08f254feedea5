use Rattle.std.proofs.Common.{◌≡◌, drop}
use Rattle.std.specs.Prelude.{find}
use Rattle.execution_model.specs.Feeds.{is_overdue}
use Rattle.example_executions.proofs.lists.TestLists.lowest_overdue.Given as goal

abbrev pub invariant-loop-point : goal.invariant-loop-point
invariant-loop-point l = find (is_overdue l.self l.moments l.moment) l.point-items ≡ find (is_overdue l.self l.moments l.moment) (drop l.point-index l.point-items)
