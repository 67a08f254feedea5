-- How the rounds end, and what is sought before each.
use Rattle.std.specs.Prelude.{Option, Some, None}
use Rattle.net_model.specs.declared.ids.PointId.{PointId}
use Rattle.closure_model.specs.Orders.{lowest_unplaced, placed_points, cycle_from}
use Rattle.closure_model.specs.ReferenceRounds as rounds
use Rattle.closure_model.specs.Tables.{Graph}
use Rattle.example_references.specs.declared.ending.Ending.{Ending}
use Rattle.example_references.specs.declared.ending.Ending.TheVariants.{Closed, Looped}

-- an ending as the definition of the rounds has it
abbrev pub rounds_ending_of : Ending → rounds.Ending
rounds_ending_of (Closed order) = rounds.closed order
rounds_ending_of (Looped cycle) = rounds.looped cycle

abbrev pub sought_from : Graph → Option PointId → Ending
sought_from table None = Closed (placed_points table)
sought_from table (Some first) = Looped (cycle_from table first)

-- the order of a table, or its cycle if a point is left
abbrev pub sought_in : Graph → Ending
sought_in table = sought_from table (lowest_unplaced table)
