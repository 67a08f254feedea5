-- Sorted places stand in turn.
use Rattle.std.proofs.Common.{arith}
use Rattle.back_propagation.proofs.QueueSteps.{sorted_in_turn}
use Rattle.back_propagation.proofs.queue.Queue.of.Goals as goal

pub invariant_of-result : goal.invariant_of-result
invariant_of-result c = (omega arith, sorted_in_turn c.sort_unstable.new.self.items c.sort_unstable.ensures.sorted, c.new.ensures.heap_order)
