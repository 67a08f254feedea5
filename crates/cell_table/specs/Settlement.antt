-- What the cells of a network settle to.
use Rattle.std.specs.Prelude.{◌≡◌, List}
use Rattle.net_model.specs.Network.{Plan}
use Rattle.net_model.specs.declared.ids.PointId.{PointId}
use Rattle.closure_model.specs.Closure.{IsClosure, HoldsDerivable}
use Rattle.closure_model.specs.Orders.{IsOrder, IsCycle, placed_points}
use Rattle.closure_model.specs.Tables.{Graph, IsAtMost, IsFor}
use Rattle.network_closure.specs.Saturation.{IsClosedBy, IsPartialClosure, IsUnsaturated}
use Rattle.cell_table.specs.declared.settlement.Settled.{Settled}
use Rattle.cell_table.specs.declared.settlement.Settled.TheVariants.{Closed, Looped}
use Rattle.cell_table.specs.declared.settlement.SweptOutcome.{SweptOutcome}
use Rattle.cell_table.specs.declared.settlement.SweptOutcome.TheVariants.{Looped as TestedLooped, Unsaturated, Ordered}

-- a cycle of negative ordinary edges of a table of derivable edges
pub record IsDerivableCycle (net : Plan) (cycle : List PointId) : Type 0 where
  pub table : Graph
  pub derivable : HoldsDerivable net table
  pub fits : IsFor net table
  pub is : IsCycle table cycle

-- what the cells of a network settle to: its closure with its order, or a cycle of derivable negative ordinary edges
abbrev pub IsSettledOutcome : Plan → Settled → Type 0
IsSettledOutcome net (Closed closed) = IsClosedBy net closed
IsSettledOutcome net (Looped cycle) = IsDerivableCycle net cycle

-- a table after a sweep: it is a partial closure, and no weight rose
pub record IsSweptFrom (net : Plan) (before after : Graph) : Type 0 where
  pub partial_closure : IsPartialClosure net after
  pub lower : IsAtMost after before

-- the closure and its order
pub record IsOrdered (net : Plan) (table : Graph) (order : List PointId) : Type 0 where
  pub closure : IsClosure net table
  pub order_is : IsOrder table order
  pub placed : order ≡ placed_points table

-- what a table comes to
abbrev pub TestedAs : Plan → Graph → SweptOutcome → Type 0
TestedAs net table (TestedLooped cycle) = IsCycle table cycle
TestedAs net table (Unsaturated edge) = IsUnsaturated net table edge
TestedAs net table (Ordered order) = IsOrdered net table order
