-- What is saturated changes nothing.
use Rattle.back_propagation.proofs.BlockSteps.{block_relaxes_nothing}
use Rattle.back_propagation.proofs.open_row.OpenRow.relax_unless_saturated.Goals as goal

pub returns-else-improves : goal.returns-else-improves
returns-else-improves c = block_relaxes_nothing c.args.basis c.args.self.now c.args.edge.now c.args.column c.args.entries.now c.requires.row c.requires.entries (c.requires.met c.if-improves.false)
