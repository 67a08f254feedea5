-- The dispatchable network of the closure of a network.
use Rattle.std.specs.Prelude.{◌≡◌, List, length}
use Rattle.net_model.specs.Network.{Plan}
use Rattle.net_model.specs.declared.ids.PointId.{PointId}
use Rattle.closure_model.specs.Closure.{IsClosure}
use Rattle.closure_model.specs.Orders.{IsOrder}
use Rattle.closure_model.specs.Tables.{Graph}
use Rattle.dispatch_net.specs.Dispatchable.{DispatchLists, IsDispatchBy}

-- the dispatchable network of the closure of a network, which has an order
pub record IsDispatchOfClosure (net : Plan) (dispatch : DispatchLists) : Type 0 where
  pub table : Graph
  pub order : List PointId
  pub closure : IsClosure net table
  pub ordered : IsOrder table order
  pub by : IsDispatchBy net table dispatch
  pub whole : length dispatch.made ≡ length net.points
