use Rattle.std.proofs.Common.{ap, ◌∙◌}
use Rattle.work_board.specs.Boards.{BoardSeatSeen}
use Rattle.work_board.proofs.TableLemmas.{draws}
use Rattle.work_board.proofs.board.Board.draw.Goals as goal

pub fetch_add-number-requires-clause-rule : goal.fetch_add-number-requires-clause-rule
fetch_add-number-requires-clause-rule c =
    draws c.self.inside.words.key c.seat.inside.shared.view (ap (λ (s : BoardSeatSeen). s.view.nones) c.seat.view_is ∙ c.requires.untold)
