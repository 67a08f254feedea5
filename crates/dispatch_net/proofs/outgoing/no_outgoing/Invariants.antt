use Rattle.std.proofs.Common.{◌≡◌, replicate}
use Rattle.dispatch_net.specs.Dispatchable.{no_conditions}
use Rattle.dispatch_net.proofs.outgoing.no_outgoing.Given as goal

abbrev pub invariant-loop-point : goal.invariant-loop-point
invariant-loop-point l = l.lists.items ≡ replicate l._point no_conditions
