-- The place is that of the edge.
use Rattle.back_propagation.proofs.SeedSteps.{between_fits}
use Rattle.back_propagation.proofs.open_row.OpenRow.push_if_seed.Goals as goal

pub place_of-place-requires : goal.place_of-place-requires
place_of-place-requires c =
    between_fits c.args.basis.table.now c.args.edge.now.to c.args.self.now.slots c.args.self.now.width c.requires.edge.slots c.args.edge.now.from c.args.edge.now.label c.args.column
    (c.requires.edge.slots.sound.keys c.args.edge.now c.requires.edge.held).from_point c.requires.edge.in_column
