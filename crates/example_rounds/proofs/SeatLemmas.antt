-- A draw changes which numbers a seat owns, or how often it found that there is nothing left, and nothing else.
use Rattle.std.proofs.Common.{◌≡◌, ℕ, Bool, true, false, nat_lt, Option, refl, sym, subst}
use Rattle.work_board.specs.Boards.{BoardSeatSeen, Draws}
use Rattle.example_rounds.specs.Seats.{SameSeat}

pub draws_same : (before after : BoardSeatSeen) (result : Option ℕ) → Draws before after result → SameSeat before after
draws_same before after result d = by (nat_lt d.number before.view.targets) refl
  where
    by : (b : Bool) → nat_lt d.number before.view.targets ≡ b → SameSeat before after
    by true is =
        let after_is = rw is at d.after_is in
        subst (SameSeat before) (sym after_is) (record { board = refl; targets = refl; drawer = refl; out = refl; to_split = refl })
    by false is =
        let after_is = rw is at d.after_is in
        subst (SameSeat before) (sym after_is) (record { board = refl; targets = refl; drawer = refl; out = refl; to_split = refl })
