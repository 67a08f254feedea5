use Rattle.std.proofs.Common.{◌≡◌, ◌++◌, map, filter, take}
use Rattle.execution_model.specs.Execution.{is_due}
use Rattle.example_executions.proofs.lists.TestLists.push_acts.Given as goal

abbrev pub invariant-loop-point : goal.invariant-loop-point
invariant-loop-point l = l.acts.items ≡ l.initial.acts.items ++ map (λ point. record { moment = l.t; point = point }) (filter (is_due l.self l.moments l.t) (take l.point-index l.point-items))
