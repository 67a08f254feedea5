use Rattle.std.proofs.Common.{arith}
use Rattle.std.proofs.lemmas.Int.{ints}
use Rattle.cert_checker.proofs.Steps.{total_step}
use Rattle.cert_checker.proofs.walk.total_weight.Goals as goal

pub loop-step-preserved : goal.loop-step-preserved
loop-step-preserved c =
    let more = total_step c.args.lines.now c.args.walk.now c.loop-step.step-index 0 c.loop-step-test.true in
    (omega (arith, ints, more), omega (arith, ints), omega (arith, ints))
