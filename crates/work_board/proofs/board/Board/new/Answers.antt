use Rattle.work_board.proofs.TableLemmas.{opens}
use Rattle.work_board.proofs.board.Board.new.Goals as goal

pub new-requires-clause-rule : goal.new-requires-clause-rule
new-requires-clause-rule c = opens record { targets = c.args.targets; seats = c.args.seats } (record { some = c.requires.0; few = c.requires.1; targets = c.ranges.targets.fits })
