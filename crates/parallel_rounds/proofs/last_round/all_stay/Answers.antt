-- One row more.
use Rattle.std.proofs.Common.{arith}
use Rattle.parallel_rounds.proofs.LastSteps.{stays_more, stays_all}
use Rattle.parallel_rounds.proofs.last_round.all_stay.Goals as goal

pub loop-row-preserved : goal.loop-row-preserved
loop-row-preserved c = stays_more c.args.order.now c.args.rows.now c.loop-row.row-index c.row-item.result c.loop-row-test.true c.row-item.is c.loop-row.invariant (c.stays.ensures c.if-not-stays.false)

pub returns : goal.returns
returns c = λ _. stays_all c.args.order.now c.args.rows.now c.loop-row.row-index (omega (arith, c.loop-row-test.false)) c.loop-row.invariant
