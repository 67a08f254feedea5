use Rattle.std.proofs.Common.{◌≡◌, ◌++◌, take}
use Rattle.strategy_model.specs.Plays.{at_moment}
use Rattle.strategy_model.proofs.plays.push_at.Given as goal

abbrev pub invariant-loop-point : goal.invariant-loop-point
invariant-loop-point l =
    l.moments.items ≡ l.initial.moments.items ++ at_moment l.t (take l.point-index l.points)
