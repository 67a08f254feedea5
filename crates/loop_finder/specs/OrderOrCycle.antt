-- What is found in a table: an order of its points, or a cycle.
use Rattle.std.specs.Prelude.{Option, Some, None}
use Rattle.net_model.specs.declared.ids.PointId.{PointId}
use Rattle.closure_model.specs.Tables.{Graph}
use Rattle.closure_model.specs.Orders.{placed_points, lowest_unplaced, cycle_from, IsOrder, IsCycle}
use Rattle.loop_finder.specs.declared.order_or_cycle.Found.{Found}
use Rattle.loop_finder.specs.declared.order_or_cycle.Found.TheVariants.{Order, Cycle}

-- a cycle from the lowest point that is left, or the order if none is
abbrev pub found_from : Graph → Option PointId → Found
found_from graph None = Order (placed_points graph)
found_from graph (Some first) = Cycle (cycle_from graph first)

-- what is found in a table
abbrev pub found_in : Graph → Found
found_in graph = found_from graph (lowest_unplaced graph)

-- what is found is what it is called
abbrev pub IsWhatItSays : Graph → Found → Type 0
IsWhatItSays graph (Order points) = IsOrder graph points
IsWhatItSays graph (Cycle points) = IsCycle graph points
