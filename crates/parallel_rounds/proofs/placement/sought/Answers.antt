-- What is found is what it is called.
use Rattle.std.proofs.Common.{subst}
use Rattle.loop_finder.specs.OrderOrCycle.{IsWhatItSays}
use Rattle.loop_finder.specs.declared.order_or_cycle.Found.{Found}
use Rattle.parallel_rounds.proofs.placement.sought.Goals as goal

pub of-requires-clause-once : goal.of-requires-clause-once
of-requires-clause-once c = (subst (λ (f : Found). IsWhatItSays c.args.table.now f) c.in-Order.is c.in_ok-order.ensures.says).once
