use Rattle.std.proofs.Common.{◌≡◌, ℕ, ◌<◌, ◌≤◌, []}
use Rattle.execution_model.specs.Execution.{acts_at}
use Rattle.execution_model.specs.Feeds.{next_moment}
use Rattle.example_executions.proofs.slow_executor.SlowExecutor.first_acts.Given as goal

abbrev pub invariant-loop-t : goal.invariant-loop-t
invariant-loop-t l = (u : ℕ) → next_moment l.self ≤ u → u < l.t → acts_at l.self.setting l.self.moments u ≡ []
