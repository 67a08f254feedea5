-- The order in which rounds that closed a table leave its points.
use Rattle.std.specs.Prelude.{◌≡◌}
use Rattle.closure_model.specs.Orders.{placed_points}
use Rattle.closure_model.specs.ReferenceRounds.{Ending, closed, looped}
use Rattle.closure_model.specs.Tables.{Graph}

-- if the rounds closed, the order is that in which the points of the table are placed
abbrev pub IsPlacedBy : Graph → Ending → Type 0
IsPlacedBy table (closed order) = order ≡ placed_points table
IsPlacedBy table (looped cycle) = Unit {0}
