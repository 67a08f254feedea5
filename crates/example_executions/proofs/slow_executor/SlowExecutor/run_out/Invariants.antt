use Rattle.std.proofs.Common.{◌≡◌}
use Rattle.example_executions.proofs.slow_executor.SlowExecutor.run_out.Given as goal

abbrev pub invariant-loop-end : goal.invariant-loop-end
invariant-loop-end l = l.self ≡ l.initial.self
