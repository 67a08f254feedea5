-- The rule of a board: what holds after every history of steps.
use Rattle.std.specs.Prelude.{◌≡◌, ◌≢◌, ◌==◌, ℕ, ◌+◌, ◌<◌, ◌≤◌, min, List, length, nat_lt, count_by, if◌then◌else◌}
use Rattle.std.specs.List.{All}
use Rattle.shared_seats.specs.Standings.{OfLive, total_of_live}
use Rattle.shared_seats.specs.declared.standing.Standing.{Standing}
use Rattle.work_board.specs.BoardHistory.{BoardHistory}
use Rattle.work_board.specs.declared.view.Draw.{Draw}
use Rattle.work_board.specs.declared.view.Size.{Size}
use Rattle.work_board.specs.declared.view.View.{View}

-- how often a number stands among draws
abbrev pub times_drawn : ℕ → List Draw → ℕ
times_drawn number draws = count_by (λ draw. draw.number == number) draws

-- 1 if a number is below another, else 0
abbrev pub once_below : ℕ → ℕ → ℕ
once_below number bound = if nat_lt number bound then 1 else 0

-- 1 if the seat has this number, else 0
abbrev pub has_number : ℕ → View → ℕ
has_number drawer view = if view.drawer == drawer then 1 else 0

-- what each live seat knows: the count of targets; it drew at most once when there was nothing left, and once more for each seat joined into it; and only the
-- first seat has split, joins, or may split
pub record IsSeat (size : Size) (next : ℕ) (view : View) : Type 0 where
  pub targets : view.targets ≡ size.targets
  pub heard_end_once : view.nones ≤ view.joined + 1
  pub split_seats : view.drawer ≢ 0 → (view.out ≡ 0) × (view.joined ≡ 0) × (view.to_split ≡ 0)
  pub numbered : view.drawer < next
  pub drew : All (λ (draw : Draw). draw.drawer < next) view.held

-- the number of the next seat that is split
abbrev pub next_drawer : List (Standing View) → ℕ
next_drawer standings = total_of_live (λ view. view.out + view.joined) standings + 1

-- `once`: each number below that of the board and the count of targets stands in one live seat, once, and no other number stands in any. `apart`: no two live
-- seats have one number. `counted`: the number of the board is the count of the numbers held, and of how often there was nothing left. `passed`: if a seat drew
-- when there was nothing left, the number of the board is above the count of targets. `others`: one live seat is the first, and as many others are live as it
-- has out. `seats`: with those joined and those that may still be split they are all seats. `each`: what each live seat knows. A seat that was joined into
-- another holds nothing.
pub record BoardRule (size : Size) (number : ℕ) (standings : List (Standing View)) : Type 0 where
  pub once : (held : ℕ) → total_of_live (λ view. times_drawn held view.held) standings ≡ once_below held (min number size.targets)
  pub apart : (drawer : ℕ) → total_of_live (has_number drawer) standings ≤ 1
  pub counted : number ≡ total_of_live (λ view. length view.held + view.nones) standings
  pub passed : 0 < total_of_live (λ view. view.nones) standings → size.targets < number
  pub first : total_of_live (has_number 0) standings ≡ 1
  pub others : total_of_live (λ view. 1) standings ≡ total_of_live (λ view. view.out) standings + 1
  pub seats : total_of_live (λ view. view.out + view.joined + view.to_split) standings + 1 ≡ size.seats
  pub each : All (OfLive (IsSeat size (next_drawer standings))) standings

-- every history of a board keeps the rule
abbrev pub HistoriesKeepTheRule : Type 0
HistoriesKeepTheRule =
    (size : Size) (number : ℕ) (standings : List (Standing View)) → 0 < size.seats → BoardHistory size number standings → BoardRule size number standings
