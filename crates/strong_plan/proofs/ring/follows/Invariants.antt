use Rattle.std.proofs.Common.{◌≡◌, ◌+◌, drop}
use Rattle.strong_plan.specs.Judgement.{follows}
use Rattle.strong_plan.proofs.ring.follows.Given as goal

abbrev pub invariant-loop-index : goal.invariant-loop-index
invariant-loop-index l = follows l.net (1 + l.index) l.before (drop l.index l.names) ≡ follows l.net 1 l.last l.names
