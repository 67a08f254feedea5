-- How many seats a board may have.
use Rattle.std.specs.Prelude.{ℕ}

-- the most seats of a board, and so the most workers of a round
abbrev pub most_seats : ℕ
most_seats = 64
