-- Standings of seats: what holds of those that are live, and what is counted over them.
use Rattle.std.specs.Prelude.{ℕ, ◌+◌, List, [], ◌∷◌}
use Rattle.shared_seats.specs.declared.standing.Standing.{Standing}
use Rattle.shared_seats.specs.declared.standing.Standing.TheVariants.{Live, Spent}

module _ {V : Type 0} where
  -- what a seat knows, changed if it is live
  abbrev pub live_map : (V → V) → Standing V → Standing V
  live_map change (Live view) = Live (change view)
  live_map change Spent = Spent

  -- the standing of a seat after another was joined into it
  abbrev pub both_of : (V → V → V) → Standing V → Standing V → Standing V
  both_of joined_with (Live view) (Live other) = Live (joined_with view other)
  both_of joined_with standing other = standing

  -- what holds of each live seat
  abbrev pub OfLive : (V → Type 0) → Standing V → Type 0
  OfLive Holds (Live view) = Holds view
  OfLive Holds Spent = Unit {0}

  -- a count of what a live seat knows; a seat that was joined into another counts nothing
  abbrev pub of_live : (V → ℕ) → Standing V → ℕ
  of_live count (Live view) = count view
  of_live count Spent = 0

  -- a count over all live seats
  abbrev pub total_of_live : (V → ℕ) → List (Standing V) → ℕ
  total_of_live count [] = 0
  total_of_live count (standing ∷ standings) = of_live count standing + total_of_live count standings
