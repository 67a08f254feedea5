-- Whether a network is controllable, by a forward closed table and its order.
use Rattle.std.specs.Prelude.{Option, None, Some}
use Rattle.net_model.specs.Network.{Plan}
use Rattle.closure_model.specs.Orders.{IsOrder}
use Rattle.strategy_model.specs.Control.{IsControllable}
use Rattle.network_closure.specs.Saturation.{IsPartialClosure}
use Rattle.closure_laws.specs.Forward.{IsDispatchedForward}
use Rattle.forward_closure.specs.declared.decision.ForwardClosed.{ForwardClosed}

-- what a forward closed table with its order says of a network without a delay: it is controllable, and may be dispatched by the table, if there is one; and
-- it is not if there is none
abbrev pub IsDecidedForward : Plan → Option ForwardClosed → Type 0
IsDecidedForward net (Some closed) = IsControllable net × IsDispatchedForward net closed.table closed.order
IsDecidedForward net None = ¬ IsControllable net

-- what the search finds: a partial closure with an order
pub record IsFound (net : Plan) (found : ForwardClosed) : Type 0 where
  pub partial_closure : IsPartialClosure net found.table
  pub ordered : IsOrder found.table found.order
