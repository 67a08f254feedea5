use Rattle.std.proofs.Common.{refl}
use Rattle.cell_table.proofs.TakeLemmas.{labelled_there}
use Rattle.cell_table.proofs.final_table.edge_at.Goals as goal

pub returns-clause-key : goal.returns-clause-key
returns-clause-key c =
    labelled_there c.args.table.now c.args.ends.now c.args.points c.args.place c.requires.shape c.if-row-points.false c.requires.place _ refl
