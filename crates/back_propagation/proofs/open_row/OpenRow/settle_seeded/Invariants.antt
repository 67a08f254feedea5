use Rattle.closure_model.proofs.RowSteps.{unsettled}
use Rattle.back_propagation.proofs.RowProgress.{IsBestSettling}
use Rattle.back_propagation.proofs.open_row.OpenRow.settle_seeded.Given as goal

abbrev pub invariant-loop-weight : goal.invariant-loop-weight
invariant-loop-weight l = IsBestSettling l.basis l.target l.delta l.self l.made

abbrev pub decreases-loop-weight : goal.decreases-loop-weight
decreases-loop-weight l = unsettled l.self.slots
