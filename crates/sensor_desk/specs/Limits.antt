-- How many seats a desk may have.
use Rattle.std.specs.Prelude.{ℕ}

-- the most seats of a desk: those of 64 feeders, and one for the caller
abbrev pub most_desk_seats : ℕ
most_desk_seats = 65
