use Rattle.std.proofs.Common.{◌≡◌, drop}
use Rattle.strong_plan.specs.Judgement.{last_name}
use Rattle.strong_plan.proofs.ring.last_name.Given as goal

abbrev pub invariant-loop-name : goal.invariant-loop-name
invariant-loop-name l = last_name l.last (drop l.name-index l.rest) ≡ last_name l.first l.rest
