use Rattle.std.proofs.Common.{◌≡◌, drop}
use Rattle.strategy_model.specs.Plays.{may_act}
use Rattle.strategy_model.proofs.plays.may_act.Given as goal

abbrev pub invariant-loop-place : goal.invariant-loop-place
invariant-loop-place l = may_act l.net l.so_far l.acts ≡ may_act l.net l.so_far (drop l.place l.acts)
