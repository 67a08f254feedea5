use Rattle.std.proofs.Common.{◌≡◌, drop}
use Rattle.strategy_model.specs.Plays.{moment_so_far}
use Rattle.strategy_model.proofs.plays.moment_so_far.Given as goal

abbrev pub invariant-loop-known : goal.invariant-loop-known
invariant-loop-known l = moment_so_far l.so_far l.point ≡ moment_so_far (drop l.known-index l.so_far) l.point
