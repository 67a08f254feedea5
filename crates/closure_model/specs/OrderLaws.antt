-- What holds of orders and cycles.
use Rattle.std.specs.Prelude.{◌≡◌, ◌<◌, ◌⊎◌, ℕ, true, List, length, slice_index_or, Some, None}
use Rattle.net_model.specs.declared.ids.PointId.{PointId}
use Rattle.closure_model.specs.Tables.{Graph}
use Rattle.closure_model.specs.Orders.{goes, placed_points, lowest_unplaced, cycle_from, IsOrder, IsCycle}

-- if every point is placed, the placed points are an order
abbrev pub PlacedPointsAreAnOrder : Type 0
PlacedPointsAreAnOrder = (graph : Graph) → lowest_unplaced graph ≡ None → IsOrder graph (placed_points graph)

-- if a point is left, a cycle is reached from it
abbrev pub CyclesAreMet : Type 0
CyclesAreMet = (graph : Graph) (first : PointId) → lowest_unplaced graph ≡ Some first → IsCycle graph (cycle_from graph first)

-- a table that has an order has no cycle
abbrev pub OrdersExcludeCycles : Type 0
OrdersExcludeCycles = (graph : Graph) (order cycle : List PointId) → IsOrder graph order → IsCycle graph cycle → ⊥

-- the order of one table is one of another of as many points, if each negative ordinary edge of the other was one of the first, or goes
-- from a later place of the order to an earlier one
abbrev pub OrdersStay : Type 0
OrdersStay =
    (before now : Graph) (order : List PointId) (place : PointId → ℕ) → now.shape ≡ before.shape → IsOrder before order
    → ((i : ℕ) (d : PointId) → i < length order → place (slice_index_or order i d) ≡ i)
    → ((from to : PointId) → goes now from to ≡ true → (goes before from to ≡ true) ⊎ (place to < place from)) → IsOrder now order

-- if a table has an order, every point is placed
abbrev pub OrderedTablesArePlaced : Type 0
OrderedTablesArePlaced = (graph : Graph) (order : List PointId) → IsOrder graph order → lowest_unplaced graph ≡ None
