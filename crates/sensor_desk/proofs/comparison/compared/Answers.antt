use Rattle.std.proofs.Common.{◌<◌, subst}
use Rattle.std.specs.Mem.Slots.{slots_items}
use Rattle.sensor_desk.specs.Comparison.{IsAgreed}
use Rattle.sensor_desk.proofs.ComparisonLemmas.{agreed_more, differs_first}
use Rattle.sensor_desk.proofs.comparison.compared.Goals as goal

pub returns-then-not-agrees : goal.returns-then-not-agrees
returns-then-not-agrees c =
    let inside = subst (λ n. c.loop-number.number < n) c.requires.links c.loop-number-test.true in
    differs_first c.args.net.now c.args.executor.now.moments (slots_items c.args.words.now.words) c.loop-number.number inside c.loop-number.invariant
    (subst (IsAgreed c.args.net.now c.args.executor.now.moments (slots_items c.args.words.now.words) c.loop-number.number) c.if-not-agrees.true c.agrees.ensures)

pub loop-number-preserved : goal.loop-number-preserved
loop-number-preserved c =
    let inside = subst (λ n. c.loop-number.number < n) c.requires.links c.loop-number-test.true in
    agreed_more c.args.net.now c.args.executor.now.moments (slots_items c.args.words.now.words) c.loop-number.number inside c.loop-number.invariant
    (subst (IsAgreed c.args.net.now c.args.executor.now.moments (slots_items c.args.words.now.words) c.loop-number.number) c.if-not-agrees.false c.agrees.ensures)
