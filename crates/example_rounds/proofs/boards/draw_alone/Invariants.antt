use Rattle.std.proofs.Common.{◌≡◌}
use Rattle.work_board.specs.Boards.{IsSeatOfBoard}
use Rattle.example_rounds.specs.Seats.{SameSeat}
use Rattle.example_rounds.proofs.boards.draw_alone.Given as goal

abbrev pub invariant-loop-number : goal.invariant-loop-number
invariant-loop-number g l = SameSeat l.initial.seat l.seat
