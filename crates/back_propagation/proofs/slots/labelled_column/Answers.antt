-- The label is one of them.
use Rattle.back_propagation.proofs.FirstSteps.{passed_all}
use Rattle.back_propagation.proofs.slots.labelled_column.Goals as goal

pub returns : goal.returns
returns c = absurd (passed_all c.args.labels.now c.args.label c.loop-place.place c.loop-place-test.false c.loop-place.invariant c.requires)
