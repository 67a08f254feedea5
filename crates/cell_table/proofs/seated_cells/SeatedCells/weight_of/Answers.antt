use Rattle.cell_table.proofs.SweepLemmas.{there_ordinary, there_from, there_link, upper_at, upper_goes_on, load_goes_on}
use Rattle.closure_model.specs.Keys.{ordinary_key}
use Rattle.cell_table.proofs.seated_cells.SeatedCells.weight_of.Goals as goal

pub load-requires-clause-key : goal.load-requires-clause-key
load-requires-clause-key c = there_ordinary c.self.inside.net.now c.self.inside.cells.now c.self.inside.seat c.self.invariant c.args.self.now c.self.view_is c.args.edge.now c.requires

pub load_upper-requires-clause-from : goal.load_upper-requires-clause-from
load_upper-requires-clause-from c = there_from c.self.inside.net.now c.self.inside.cells.now c.self.inside.seat c.self.invariant c.args.self.now c.self.view_is c.args.edge.now c.requires

pub load_upper-requires-clause-link : goal.load_upper-requires-clause-link
load_upper-requires-clause-link c = there_link c.self.inside.net.now c.self.inside.cells.now c.self.inside.seat c.self.invariant c.args.self.now c.self.view_is c.args.edge.now c.requires c.in-Some.link c.in-Some.is

pub invariant_of-self-in-Some : goal.invariant_of-self-in-Some
invariant_of-self-in-Some c = upper_at c.self.inside.net.now c.self.inside.cells.now c.self.inside.seat c.self.invariant c.args.edge.now.from c.in-Some.link c.load_upper.new.seat c.load_upper.result
    (there_link c.self.inside.net.now c.self.inside.cells.now c.self.inside.seat c.self.invariant c.args.self.now c.self.view_is c.args.edge.now c.requires c.in-Some.link c.in-Some.is) c.load_upper.ensures

pub returns-in-None : goal.returns-in-None
returns-in-None c = load_goes_on c.self.inside.net.now c.self.inside.cells.now c.self.inside.seat c.self.invariant c.args.self.now c.self.view_is c.load.new.seat (ordinary_key c.args.edge.now.from c.args.edge.now.to) c.load.result c.load.ensures

pub returns-in-Some : goal.returns-in-Some
returns-in-Some c = upper_goes_on c.self.inside.net.now c.self.inside.cells.now c.self.inside.seat c.self.invariant c.args.self.now c.self.view_is c.args.edge.now.from c.in-Some.link c.load_upper.new.seat c.load_upper.result
    (there_link c.self.inside.net.now c.self.inside.cells.now c.self.inside.seat c.self.invariant c.args.self.now c.self.view_is c.args.edge.now c.requires c.in-Some.link c.in-Some.is) c.load_upper.ensures
