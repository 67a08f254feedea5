use Rattle.closure_model.specs.Keys.{ordinary_key}
use Rattle.cell_table.proofs.SweepLemmas.{load_goes_on, loaded_derivable}
use Rattle.cell_table.proofs.seated_cells.SeatedCells.ordinary.Goals as goal

pub returns-clause-goes_on : goal.returns-clause-goes_on
returns-clause-goes_on c = load_goes_on c.self.inside.net.now c.self.inside.cells.now c.self.inside.seat c.self.invariant c.args.self.now c.self.view_is c.load.new.seat (ordinary_key c.args.from c.args.to) c.load.result c.load.ensures

pub returns-clause-derivable : goal.returns-clause-derivable
returns-clause-derivable c = loaded_derivable c.self.inside.net.now c.self.inside.cells.now c.self.inside.seat c.self.invariant c.args.self.now c.self.view_is c.load.new.seat (ordinary_key c.args.from c.args.to) c.load.result c.load.ensures
