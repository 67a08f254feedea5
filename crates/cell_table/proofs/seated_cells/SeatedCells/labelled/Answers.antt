use Rattle.closure_model.specs.Keys.{labelled_key}
use Rattle.cell_table.proofs.SweepLemmas.{begins_there, loaded_at, load_goes_on, loaded_derivable}
use Rattle.cell_table.proofs.seated_cells.SeatedCells.labelled.Goals as goal

pub invariant_of-self : goal.invariant_of-self
invariant_of-self c = loaded_at c.self.inside.net.now c.self.inside.cells.now c.self.inside.seat c.self.invariant c.load_upper.new.seat (labelled_key c.args.from c.args.to c.args.link) c.load_upper.result
    (c.load_upper.ensures c.args.to (begins_there c.self.inside.net.now c.self.inside.cells.now c.self.inside.seat c.self.invariant c.args.self.now c.self.view_is c.args.link c.args.to c.requires.link))

pub returns-clause-goes_on : goal.returns-clause-goes_on
returns-clause-goes_on c = load_goes_on c.self.inside.net.now c.self.inside.cells.now c.self.inside.seat c.self.invariant c.args.self.now c.self.view_is c.load_upper.new.seat (labelled_key c.args.from c.args.to c.args.link) c.load_upper.result
    (c.load_upper.ensures c.args.to (begins_there c.self.inside.net.now c.self.inside.cells.now c.self.inside.seat c.self.invariant c.args.self.now c.self.view_is c.args.link c.args.to c.requires.link))

pub returns-clause-derivable : goal.returns-clause-derivable
returns-clause-derivable c = loaded_derivable c.self.inside.net.now c.self.inside.cells.now c.self.inside.seat c.self.invariant c.args.self.now c.self.view_is c.load_upper.new.seat (labelled_key c.args.from c.args.to c.args.link) c.load_upper.result
    (c.load_upper.ensures c.args.to (begins_there c.self.inside.net.now c.self.inside.cells.now c.self.inside.seat c.self.invariant c.args.self.now c.self.view_is c.args.link c.args.to c.requires.link))
