-- What the steps of a board make of what its seats know.
use Rattle.std.specs.Prelude.{ℕ, ◌+◌, ◌-◌, [], ◌∷◌, ◌++◌, if◌then◌else◌, nat_lt}
use Rattle.work_board.specs.declared.view.Size.{Size}
use Rattle.work_board.specs.declared.view.View.{View}

-- the first seat: it holds nothing, and the other seats may be split from it
abbrev pub first_view : Size → View
first_view size = record { targets = size.targets; drawer = 0; held = []; nones = 0; out = 0; joined = 0; to_split = size.seats - 1 }

-- a seat after another was split from it
abbrev pub split_from : View → View
split_from view = record view { to_split = view.to_split - 1; out = view.out + 1 }

-- the seat that was split from another: it holds nothing, and has the next number
abbrev pub split_off : View → View
split_off view = record { targets = view.targets; drawer = view.out + view.joined + 1; held = []; nones = 0; out = 0; joined = 0; to_split = 0 }

-- a seat after it drew when the board had a number: it holds the number if that is one of a target, else it knows that there is nothing left
abbrev pub drawn : View → ℕ → View
drawn view number =
    if nat_lt number view.targets
    then record view { held = view.held ++ record { number = number; drawer = view.drawer } ∷ [] }
    else record view { nones = view.nones + 1 }

-- a seat after another was joined into it
abbrev pub joined_with : View → View → View
joined_with view other = record view { held = view.held ++ other.held; nones = view.nones + other.nones; out = view.out - 1; joined = view.joined + 1 }
