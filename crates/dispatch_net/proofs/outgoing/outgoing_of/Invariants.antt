use Rattle.dispatch_net.specs.Outgoing.{AreOutgoing}
use Rattle.dispatch_net.proofs.OutgoingLemmas.{edges_before}
use Rattle.dispatch_net.proofs.outgoing.outgoing_of.Given as goal

abbrev pub invariant-loop-to : goal.invariant-loop-to
invariant-loop-to l = AreOutgoing l.points (edges_before l.table l.to) l.lists.items
