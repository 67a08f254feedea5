-- What callers see of a seat and of a board, and as data.
use Rattle.std.specs.Prelude.{◌≡◌, ◌==◌, ℕ, ◌+◌, ◌<◌, not, Bool, [], refl}
use Rattle.std.specs.Coded.{Coded, code_by, coded×}
use Rattle.atomic_table.specs.Seated.{TableId, table_id_coded}
use Rattle.shared_seats.specs.Seats as shared
use Rattle.work_board.specs.Boards.{BoardSeen, BoardSeatSeen}
use Rattle.work_board.specs.Limits.{most_seats}
use Rattle.work_board.specs.contracts.view.Size as size
use Rattle.work_board.specs.contracts.view.View as view
use Rattle.work_board.specs.declared.view.Size.{Size}
use Rattle.work_board.specs.declared.view.View.{View}

-- a board as data
abbrev pub board_code : Coded BoardSeen
board_code = code_by (TableId × Size) (coded× table_id_coded size.the_row.coded) (λ board. (board.id, board.size))
    (λ parts. record { id = parts.0; size = parts.1 }) (λ _. refl)

-- a seat as data
abbrev pub seat_code : Coded BoardSeatSeen
seat_code = shared.seat_code view.the_row.coded

-- what a seat with no live standing would know
abbrev pub nothing : View
nothing = record { targets = 0; drawer = 0; held = []; nones = 0; out = 0; joined = 0; to_split = 0 }

-- what a seat has counted is what it knows, and all seats of its board are not too many
pub record IsSeatedAtBoard (view : View) (out : ℕ) (told : Bool) : Type 0 where
  pub out_is : out ≡ view.out
  pub few : view.out + view.joined + view.to_split < most_seats
  pub heard_end_is : told ≡ not (view.nones == 0)
