use Rattle.cell_table.proofs.SettleLemmas.{left_swept}
use Rattle.cell_table.proofs.settlement.swept.Goals as goal

pub returns-in-Ok-close-clause-swept : goal.returns-in-Ok-close-clause-swept
returns-in-Ok-close-clause-swept g c =
    left_swept c.args.task.now.net.now c.args.table.now c.args.task.now.workers c.in_ok-cells.cells c.in_ok-cells.first c.requires.partial_closure.plan c.in_ok-cells.ensures.made c.requires.partial_closure c.in-Ok.seat.view
    c.in-Ok-close.table c.in-Ok-close.ensures
