use Rattle.back_propagation.proofs.FirstSteps.{IsPassed}
use Rattle.back_propagation.proofs.slots.labelled_column.Given as goal

abbrev pub invariant-loop-place : goal.invariant-loop-place
invariant-loop-place l = IsPassed l.labels l.label l.place
