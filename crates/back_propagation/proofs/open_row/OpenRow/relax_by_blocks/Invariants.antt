use Rattle.std.proofs.Common.{◌-◌, length}
use Rattle.back_propagation.proofs.BlockSteps.{IsRelaxedTo}
use Rattle.back_propagation.proofs.open_row.OpenRow.relax_by_blocks.Given as goal

abbrev pub invariant-loop-at : goal.invariant-loop-at
invariant-loop-at l = IsRelaxedTo l.edge l.entries l.at l.fn.self l.self

abbrev pub decreases-loop-at : goal.decreases-loop-at
decreases-loop-at l = length l.entries - l.at
