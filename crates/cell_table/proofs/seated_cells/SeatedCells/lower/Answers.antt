use Rattle.cell_table.proofs.SweepLemmas.{lower_goes_on, lower_leaves_less}
use Rattle.cell_table.proofs.seated_cells.SeatedCells.lower.Goals as goal

pub returns-clause-goes_on : goal.returns-clause-goes_on
returns-clause-goes_on c = lower_goes_on c.self.inside.net.now c.self.inside.cells.now c.self.inside.seat c.self.invariant c.args.self.now c.self.view_is c.args.edge.now c.requires c.lower.new.seat c.lower.result c.lower.ensures

pub returns-clause-improved : goal.returns-clause-improved
returns-clause-improved c = lower_leaves_less c.self.inside.net.now c.self.inside.cells.now c.self.inside.seat c.self.invariant c.args.self.now c.self.view_is c.args.edge.now c.requires c.lower.new.seat c.lower.result c.lower.ensures
