-- The histories of a board: steps of any seats, in any order.
use Rattle.std.specs.Prelude.{◌≡◌, ◌≢◌, ℕ, ◌+◌, ◌<◌, List, [], ◌∷◌, ◌++◌, set}
use mathlib.Core.Option.{some}
use lib.ListN.{get_elem?}
use Rattle.shared_seats.specs.declared.standing.Standing.{Standing}
use Rattle.shared_seats.specs.declared.standing.Standing.TheVariants.{Live, Spent}
use Rattle.work_board.specs.Views.{first_view, split_from, split_off, drawn, joined_with}
use Rattle.work_board.specs.declared.view.Size.{Size}
use Rattle.work_board.specs.declared.view.View.{View}

-- The number of a board and what its seats know, after a history of steps. The board has one number, at first 0. A draw takes the present
-- number and raises it by one; a seat that once drew when there was nothing left draws no more. A seat is split from the first, or joined
-- into it.
pub data BoardHistory (size : Size) : ℕ → List (Standing View) → Type 0 where
  make : (views : List (Standing View)) → views ≡ Live (first_view size) ∷ [] → BoardHistory size 0 views
  split : (number : ℕ) (before after : List (Standing View)) (seat : ℕ) (view : View) → BoardHistory size number before
      → get_elem? before seat ≡ some (Live view) → 0 < view.to_split
      → after ≡ set before seat (Live (split_from view)) ++ Live (split_off view) ∷ [] → BoardHistory size number after
  draw : (number next : ℕ) (before after : List (Standing View)) (seat : ℕ) (view : View) → BoardHistory size number before
      → get_elem? before seat ≡ some (Live view) → view.nones ≡ 0
      → next ≡ number + 1 → after ≡ set before seat (Live (drawn view number)) → BoardHistory size next after
  join : (number : ℕ) (before after : List (Standing View)) (seat other : ℕ) (view joining : View) → BoardHistory size number before
      → get_elem? before seat ≡ some (Live view) → get_elem? before other ≡ some (Live joining) → other ≢ seat → 0 < view.out
      → after ≡ set (set before seat (Live (joined_with view joining))) other Spent → BoardHistory size number after
