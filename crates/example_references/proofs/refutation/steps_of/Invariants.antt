use Rattle.example_references.proofs.StepFacts.{AreStepsTo}
use Rattle.example_references.proofs.refutation.steps_of.Given as goal

abbrev pub invariant-loop-point : goal.invariant-loop-point
invariant-loop-point l = AreStepsTo l.nodes l.first l.last l.points l.point-index l.steps.items
