-- The word of a board under its rule, and what a seat learns by a draw.
use Rattle.std.specs.Prelude.{◌≡◌, ℕ, ◌<◌, ◌≤◌, ◌^◌, List, [], ◌∷◌}
use Rattle.std.specs.List.{All}
use Rattle.shared_seats.specs.declared.standing.Standing.{Standing}
use Rattle.work_board.specs.BoardHistory.{BoardHistory}
use Rattle.work_board.specs.Limits.{most_seats}
use Rattle.work_board.specs.Views.{drawn}
use Rattle.work_board.specs.declared.view.Draw.{Draw}
use Rattle.work_board.specs.declared.view.Size.{Size}
use Rattle.work_board.specs.declared.view.View.{View}

-- a board has at least one seat and not too many, and its count of targets fits 32 bits
pub record IsSize (size : Size) : Type 0 where
  pub some : 0 < size.seats
  pub few : size.seats ≤ most_seats
  pub targets : size.targets < 2 ^ 32

-- a history of the board reaches the words and the seats: word 0 is the number of the board
pub record IsReachedBy (size : Size) (words : List ℕ) (standings : List (Standing View)) : Type 0 where
  pub sized : IsSize size
  pub number : ℕ
  pub word : words ≡ number ∷ []
  pub history : BoardHistory size number standings

-- what a draw shows: the number that was found is above all that the seat held, and the seat drew it
pub record IsDrawn (view : View) (found : ℕ) (after : View) : Type 0 where
  pub above : All (λ (draw : Draw). draw.number < found) view.held
  pub is : after ≡ drawn view found
