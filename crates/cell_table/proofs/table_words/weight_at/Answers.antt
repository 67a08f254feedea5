use Rattle.std.proofs.Common.{◌-◌, arith}
use Rattle.closure_model.specs.Keys.{ordinary_key, labelled_key}
use Rattle.cell_table.proofs.FillLemmas.{held_weight, upper_is, end_there}
use Rattle.cell_table.proofs.table_words.weight_at.Goals as goal

pub returns-then-row-points-clause-sound : goal.returns-then-row-points-clause-sound
returns-then-row-points-clause-sound c =
    held_weight c.args.table.now c.weight.ensures.sound (ordinary_key (record { 0 = c.args.from }) (record { 0 = c.args.row })) c.weight.result c.weight.ensures.weight

pub returns-else-row-points-clause-weight : goal.returns-else-row-points-clause-weight
returns-else-row-points-clause-weight c key sound at begins =
    upper_is c.args.table.now c.args.points c.args.row c.args.from c.requires.points c.if-row-points.false c.upper.result c.upper.ensures.weight key sound at begins

pub returns-else-row-points-clause-sound : goal.returns-else-row-points-clause-sound
returns-else-row-points-clause-sound c =
    let (to, at) = end_there c.args.table.now.shape.activations (c.args.row - c.args.points) (omega (arith, c.requires.row, c.if-row-points.false)) in
    held_weight c.args.table.now c.upper.ensures.sound (labelled_key (record { 0 = c.args.from }) to (record { 0 = c.args.row - c.args.points })) c.upper.result (c.upper.ensures.weight to at)
