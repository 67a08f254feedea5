use Rattle.std.proofs.Common.{◌≡◌, ◌+◌, drop}
use Rattle.strong_plan.specs.Judgement.{points_pass}
use Rattle.strong_plan.proofs.ring.points_pass.Given as goal

abbrev pub invariant-loop-index : goal.invariant-loop-index
invariant-loop-index l = points_pass l.net (1 + l.index) (drop l.index l.names) ≡ points_pass l.net 1 l.names
