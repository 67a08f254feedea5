use Rattle.std.proofs.Common.{ℕ, ◌<◌, Option, get_or}
use Rattle.std.specs.Prelude.{IsSome}
use Rattle.example_executions.proofs.time_steps.all_have_come.Given as goal

abbrev pub invariant-loop-moment : goal.invariant-loop-moment
invariant-loop-moment l = (k : ℕ) (d : Option ℕ) → k < l.moment-index → IsSome (get_or l.moments k d)
