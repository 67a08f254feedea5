use Rattle.back_propagation.specs.BestCandidates.{AreTakenTo}
use Rattle.back_propagation.proofs.open_row.OpenRow.seeded.Given as goal

abbrev pub invariant-loop-entry : goal.invariant-loop-entry
invariant-loop-entry l = AreTakenTo l.basis.table.now l.target l.delta l.entry-items l.entry-index l.begin.candidates l.begin.whole.items
