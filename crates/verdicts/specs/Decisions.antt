-- What a table with an order decides of a network without a delay.
use Rattle.std.specs.Prelude.{◌≡◌, Option, Some, None}
use Rattle.net_model.specs.Network.{Plan}
use Rattle.closure_model.specs.Closure.{IsClosure}
use Rattle.closure_model.specs.Orders.{IsOrder, placed_points}
use Rattle.closure_laws.specs.Forward.{IsDispatchedForward}
use Rattle.strategy_model.specs.Control.{IsControllable}
use Rattle.strategy_model.specs.Plays.{IsInstant}
use Rattle.network_closure.specs.declared.closure.Closed.{Closed}
use Rattle.forward_closure.specs.declared.decision.ForwardClosed.{ForwardClosed}

-- the network is controllable, and this is so of the table, if there is one; and it is not if there is none
abbrev pub IsDecidedBy : {T : Type 0} → (Plan → T → Type 0) → Plan → Option T → Type 0
IsDecidedBy By net (Some closed) = IsControllable net × By net closed
IsDecidedBy By net None = ¬ IsControllable net

-- a forward closed table of a network, with its order
abbrev pub IsOrderedForwardTable : Plan → ForwardClosed → Type 0
IsOrderedForwardTable net closed = IsDispatchedForward net closed.table closed.order

-- the closure of a network, with the order in which the points of that are placed
pub record IsOrderedClosure (net : Plan) (closed : Closed) : Type 0 where
  pub instant : IsInstant net
  pub closure : IsClosure net closed.table
  pub ordered : IsOrder closed.table closed.order
  pub placed : closed.order ≡ placed_points closed.table
