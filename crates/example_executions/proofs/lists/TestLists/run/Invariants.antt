use Rattle.std.proofs.Common.{◌≡◌, ◌++◌, ◌-◌}
use Rattle.execution_model.specs.Execution.{time_runs, acts_while}
use Rattle.example_executions.proofs.lists.TestLists.run.Given as goal

abbrev pub invariant-loop-t : goal.invariant-loop-t
invariant-loop-t l = record {
  moments : time_runs l.self l.initial.moments.items l.from (l.until - l.from) ≡ time_runs l.self l.moments.items l.t (l.until - l.t);
  acts : l.initial.acts.items ++ acts_while l.self l.initial.moments.items l.from (l.until - l.from) ≡ l.acts.items ++ acts_while l.self l.moments.items l.t (l.until - l.t);
}
