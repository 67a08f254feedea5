-- A board and a seat at it, as callers see them, and what a draw and the end say.
use Rattle.std.specs.Prelude.{◌≡◌, ℕ, ◌<◌, List, Option, Some, None, nat_lt, if◌then◌else◌}
use Rattle.std.specs.List.{All}
use Rattle.atomic_table.specs.Seated.{TableId}
use Rattle.shared_seats.specs.Seats.{SeatSeen}
use Rattle.work_board.specs.BoardRule.{times_drawn, once_below}
use Rattle.work_board.specs.Views.{drawn}
use Rattle.work_board.specs.declared.view.Draw.{Draw}
use Rattle.work_board.specs.declared.view.Size.{Size}
use Rattle.work_board.specs.declared.view.View.{View}

-- which board it is, and its size
pub record BoardSeen : Type 0 where
  pub id : TableId
  pub size : Size

-- the words of the board to which a seat belongs, and what the seat knows
abbrev pub BoardSeatSeen : Type 0
BoardSeatSeen = SeatSeen View

-- a seat comes from a board
pub record IsSeatOfBoard (board : BoardSeen) (seat : BoardSeatSeen) : Type 0 where
  pub board_is : seat.table ≡ board.id
  pub targets : seat.view.targets ≡ board.size.targets

-- a seat drew: the number that the board had at that step is above all that the seat held; if a target has it, it is given, and the seat holds it from then on;
-- else nothing is given
pub record Draws (before after : BoardSeatSeen) (result : Option ℕ) : Type 0 where
  pub number : ℕ
  pub above : All (λ (draw : Draw). draw.number < number) before.view.held
  pub given : result ≡ (if nat_lt number before.view.targets then Some number else None)
  pub after_is : after ≡ record { table = before.table; view = drawn before.view number }

-- each number below a bound stands among draws once, and no other does
abbrev pub EachOnce : ℕ → List Draw → Type 0
EachOnce bound draws = (number : ℕ) → times_drawn number draws ≡ once_below number bound
