use Rattle.std.proofs.Common.{◌<◌, subst, sym}
use Rattle.work_board.specs.Boards.{BoardSeatSeen}
use Rattle.work_board.proofs.TableLemmas.{joins}
use Rattle.work_board.proofs.board.Board.join.Goals as goal

pub join-requires-clause-rule : goal.join-requires-clause-rule
join-requires-clause-rule c =
    joins c.self.inside.words.key c.into.inside.shared.view c.from.inside.shared.view (subst (λ (s : BoardSeatSeen). 0 < s.view.out) (sym c.into.view_is) c.requires.out)
