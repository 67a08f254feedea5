use Rattle.refutation_certificates.proofs.CycleSteps.{IsUnderWay}
use Rattle.refutation_certificates.proofs.cycle_refutation.steps_of.Given as goal

abbrev pub invariant-loop-point : goal.invariant-loop-point
invariant-loop-point g l = IsUnderWay (g.S.Supports.support l.store).nodes (g.S.Supports.support l.store).table l.first l.last l.points l.point-index l.steps.items
