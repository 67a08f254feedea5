use Rattle.dispatch_net.specs.Held.{AreEnds}
use Rattle.dispatch_net.proofs.held_lists.ends_of.Given as goal

abbrev pub invariant-loop-point : goal.invariant-loop-point
invariant-loop-point l = AreEnds l.net.links l.point l.ends.items
