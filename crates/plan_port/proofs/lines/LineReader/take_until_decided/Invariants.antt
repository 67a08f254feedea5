use Rattle.std.proofs.Common.{List, ℕ, false}
use Rattle.plan_port.specs.Reader.{Takes}
use Rattle.plan_port.proofs.Readings.{distance}
use Rattle.plan_port.proofs.lines.LineReader.take_until_decided.Given as goal

abbrev pub invariant-loop-self : goal.invariant-loop-self
invariant-loop-self g l = (pieces : List (List ℕ)) × Takes l.longest l.fn.self l.self pieces false (g.P.Port.seen l.fn.port) (g.P.Port.seen l.port)

abbrev pub decreases-loop-self : goal.decreases-loop-self
decreases-loop-self g l = distance l.longest l.self
