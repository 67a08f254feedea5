use Rattle.std.proofs.Common.{ℕ, ◌<◌}
use Rattle.std.specs.Option.{IsSome}
use Rattle.net_model.specs.Network.{bound_named}
use Rattle.deadline_search.specs.Goals.{goal_name}
use Rattle.deadline_search.proofs.goal_names.free_name.Given as goal

abbrev pub invariant-loop-place : goal.invariant-loop-place
invariant-loop-place l = (earlier : ℕ) → earlier < l.place → IsSome (bound_named l.net (goal_name earlier))
