use Rattle.std.proofs.Common.{sym, subst}
use Rattle.cell_table.specs.TableWords.{AreWordsOfTable}
use Rattle.cell_table.proofs.FillLemmas.{opens}
use Rattle.cell_table.proofs.cells.Cells.of_table.Goals as goal

pub new-requires-clause-rule : goal.new-requires-clause-rule
new-requires-clause-rule c =
    opens record { net = c.of.result; first = c.of-2.result; seats = c.args.seats } c.args.net.now c.args.table.now c.as_slice.result.now c.of.ensures c.of-2.ensures c.points-points.ensures.sound
    c.requires.fits c.requires.derivable (subst (AreWordsOfTable c.args.table.now) (sym c.as_slice.ensures.value) c.in-Ok-words_of.ensures)
