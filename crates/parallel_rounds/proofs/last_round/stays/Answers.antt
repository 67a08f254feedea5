-- One edge more goes along; if all do, the order stays one.
use Rattle.std.proofs.Common.{arith}
use Rattle.parallel_rounds.proofs.LastSteps.{along_more}
use Rattle.parallel_rounds.proofs.last_round.stays.Goals as goal

pub loop-place-preserved : goal.loop-place-preserved
loop-place-preserved c = along_more c.args.order.now c.args.made.now c.loop-place.place c.edge.result (omega (arith, c.loop-place-test.true, c.len-place-end.ensures)) c.edge.ensures
    (c.goes_along.ensures.0 c.if-not-goes_along.false) c.loop-place.invariant

pub returns : goal.returns
returns c = λ holds table is. c.law_orders_are_kept.ensures table c.args.order.now c.args.made.now is (λ k d inside. c.loop-place.invariant k d (omega (arith, inside, c.loop-place-test.false, c.len-place-end.ensures)))
