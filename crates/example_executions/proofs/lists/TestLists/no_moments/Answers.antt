use Rattle.std.proofs.Common.{arith}
use Rattle.example_executions.proofs.ListFacts.{none_more}
use Rattle.example_executions.proofs.lists.TestLists.no_moments.Goals as goal

pub loop-point-preserved : goal.loop-point-preserved
loop-point-preserved c =
    none_more c.points-point-items.result.now c.loop-point._point-index c.loop-point.moments.items c.push.new.self.items (omega arith) c.loop-point.invariant c.in_ok-push.ensures.items
