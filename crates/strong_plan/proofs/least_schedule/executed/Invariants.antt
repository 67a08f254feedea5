use Rattle.std.proofs.Common.{◌≡◌, map, take, is_none}
use Rattle.std.specs.List.{filter}
use Rattle.net_model.specs.Network.{activation}
use Rattle.strategy_model.specs.Situations.{moment_in}
use Rattle.strategy_model.specs.Plays.{points_of}
use Rattle.strong_plan.proofs.least_schedule.executed.Given as goal

abbrev pub invariant-loop-k : goal.invariant-loop-k
invariant-loop-k l = l.times.items ≡ map (moment_in l.moments) (filter (λ p. is_none (activation l.net p)) (take l.k (points_of l.net)))
