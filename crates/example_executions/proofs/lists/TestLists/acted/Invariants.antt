use Rattle.std.proofs.Common.{◌≡◌, map, take, Some}
use Rattle.std.specs.Prelude.{if◌then◌else◌}
use Rattle.net_model.specs.Moments.{moment_of}
use Rattle.execution_model.specs.Execution.{is_due}
use Rattle.example_executions.proofs.lists.TestLists.acted.Given as goal

abbrev pub invariant-loop-point : goal.invariant-loop-point
invariant-loop-point l = l.after.items ≡ map (λ point. if is_due l.self l.moments l.t point then Some l.t else moment_of l.moments point) (take l.point-index l.point-items)
