use Rattle.std.proofs.Common.{◌<◌, subst, sym}
use Rattle.work_board.specs.Boards.{BoardSeatSeen}
use Rattle.work_board.proofs.TableLemmas.{splits}
use Rattle.work_board.proofs.board.Board.split.Goals as goal

pub split-shared-requires-clause-rule : goal.split-shared-requires-clause-rule
split-shared-requires-clause-rule c =
    splits c.self.inside.words.key c.seat.inside.shared.view (subst (λ (s : BoardSeatSeen). 0 < s.view.to_split) (sym c.seat.view_is) c.requires.may)
