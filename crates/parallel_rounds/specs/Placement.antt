-- What is known of a table before a round.
use Rattle.std.specs.Prelude.{◌≡◌}
use Rattle.closure_model.specs.Orders.{IsOrder}
use Rattle.closure_model.specs.Tables.{Graph}
use Rattle.loop_finder.specs.OrderOrCycle.{found_in, IsWhatItSays}
use Rattle.loop_finder.specs.declared.order_or_cycle.Found.TheVariants.{Cycle}
use Rattle.parallel_rounds.specs.declared.placement.Placed.{Placed}
use Rattle.parallel_rounds.specs.declared.placement.Placed.TheVariants.{InOrder, Cyclic}

-- an order of a table, or the cycle that is found in it
abbrev pub IsPlaced : Graph → Placed → Type 0
IsPlaced table (InOrder order) = IsOrder table order
IsPlaced table (Cyclic cycle) = (Cycle cycle ≡ found_in table) × IsWhatItSays table (Cycle cycle)
