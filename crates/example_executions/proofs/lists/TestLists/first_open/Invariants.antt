use Rattle.std.proofs.Common.{◌≡◌, drop}
use Rattle.std.specs.Prelude.{find}
use Rattle.execution_model.specs.Feeds.{is_open}
use Rattle.example_executions.proofs.lists.TestLists.first_open.Given as goal

abbrev pub invariant-loop-point : goal.invariant-loop-point
invariant-loop-point l = find (is_open l.self l.moments) l.point-items ≡ find (is_open l.self l.moments) (drop l.point-index l.point-items)
