-- The lists of a forward closed table with an order descend along the order.
use Rattle.std.specs.Prelude.{ℕ, ℤ, pos, ◌<◌, ◌<ℤ◌, ◌≤ℤ◌, List}
use Rattle.std.specs.List.{Contains}
use Rattle.net_model.specs.Network.{Plan, IsPlan}
use Rattle.net_model.specs.declared.ids.PointId.{PointId}
use Rattle.net_model.specs.declared.ids.LinkId.{LinkId}
use Rattle.net_model.specs.declared.part.Link.{Link}
use Rattle.closure_model.specs.Tables.{Graph, IsFor, IsGraph, IsForwardClosed}
use Rattle.closure_model.specs.Orders.{IsOrder}
use Rattle.dispatch_net.specs.declared.dispatch.Conditions.{Conditions}
use Rattle.dispatch_net.specs.Dispatchable.{conditions_at}

-- a sound forward closed table of a network with an order
pub record IsDispatchTable (net : Plan) (table : Graph) (order : List PointId) : Type 0 where
  pub sound : IsPlan net
  pub for_network : IsFor net table
  pub graph : IsGraph table
  pub closed : IsForwardClosed net table
  pub ordered : IsOrder table order

-- lower bounds and links descend along a rank of the points, and all their numbers and those of waits are positive
pub record IsRanked (links : List Link) (made : List Conditions) (rank : PointId → ℕ) : Type 0 where
  pub bounds : (point : PointId) (bound : PointId × ℤ) → Contains (conditions_at made point).lower_bounds bound → rank bound.0 < rank point
  pub bounds_positive : (point : PointId) (bound : PointId × ℤ) → Contains (conditions_at made point).lower_bounds bound → pos 0 <ℤ bound.1
  pub waits_positive : (point : PointId) (wait : LinkId × ℤ) → Contains (conditions_at made point).waits wait → pos 0 <ℤ wait.1
  pub links_go_down : (link : Link) → Contains links link → rank link.from < rank link.to
  pub links_positive : (link : Link) → Contains links link → pos 1 ≤ℤ link.low
