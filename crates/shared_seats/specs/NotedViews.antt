-- What the seats know that take notes, and what becomes of it when seats are split and joined.
use Rattle.std.specs.Prelude.{◌≡◌, ℕ, ◌-◌, List, [], ◌++◌}
use Rattle.std.specs.List.{All}
use Rattle.shared_seats.specs.Standings.{OfLive}
use Rattle.shared_seats.specs.declared.noted.Noted.{Noted}
use Rattle.shared_seats.specs.declared.standing.Standing.{Standing}

module _ {A N L : Type 0} where
  -- a seat without notes and looks
  abbrev pub bare_view : A → ℕ → Noted A N L
  bare_view about to_split = record { about = about; notes = []; looks = []; to_split = to_split }

  -- how many seats may still be split from a seat
  abbrev pub count_to_split : Noted A N L → ℕ
  count_to_split view = view.to_split

  -- a seat after another was split from it
  abbrev pub split_from : Noted A N L → Noted A N L
  split_from view = record view { to_split = view.to_split - 1 }

  -- a seat that was split from another: without notes and looks, and none may be split from it
  abbrev pub split_off : Noted A N L → Noted A N L
  split_off view = bare_view view.about 0

  -- a seat after another was joined into it: it has the notes of both, and its own looks
  abbrev pub joined_with : Noted A N L → Noted A N L → Noted A N L
  joined_with view other = record view { notes = view.notes ++ other.notes }

  module _ (Holds : N → Type 0) (about : A) where
    -- what a live seat knows is so: what the words are about, and each of its notes
    pub record IsKnown (view : Noted A N L) : Type 0 where
      pub about_is : view.about ≡ about
      pub notes : All Holds view.notes

    -- what each live seat knows is so
    abbrev pub AreKnown : List (Standing (Noted A N L)) → Type 0
    AreKnown seats = All (OfLive IsKnown) seats
