-- What a closed table or a forward closed one, with its order, decides.
use Rattle.std.proofs.Common.{Some}
use Rattle.net_model.specs.Network.{Plan}
use Rattle.closure_laws.specs.Forward.{IsDispatchedForward}
use Rattle.closure_laws.specs.ForwardLaws.{ClosuresAreForwardTables, OrderedForwardTablesAreControllable}
use Rattle.closure_laws.specs.Laws.{CyclesOfTablesExclude}
use Rattle.strategy_model.specs.Control.{IsControllable}
use Rattle.strategy_model.specs.Plays.{IsInstant}
use Rattle.network_closure.specs.Saturation.{HasDerivableCycle, IsClosedBy}
use Rattle.network_closure.specs.declared.closure.Closed.{Closed}
use Rattle.forward_closure.specs.Decision.{IsDecidedForward}
use Rattle.forward_closure.specs.declared.decision.ForwardClosed.{ForwardClosed}

-- a derivable cycle excludes every strategy
pub cycle_excludes : CyclesOfTablesExclude → (net : Plan) → IsInstant net → HasDerivableCycle net → ¬ IsControllable net
cycle_excludes exclude net instant found = λ controls. exclude net found.table found.cycle instant found.derivable found.is controls

-- the closure with an order is a forward closed table with one
pub closure_is_forward : ClosuresAreForwardTables → (net : Plan) (closed : Closed) → IsInstant net → IsClosedBy net closed → IsDispatchedForward net closed.table closed.order
closure_is_forward forward net closed instant is = record { instant = instant; forward = forward net closed.table is.closure; ordered = is.order }

-- a forward closed table with an order decides
pub forward_decides : OrderedForwardTablesAreControllable → (net : Plan) (closed : ForwardClosed) → IsDispatchedForward net closed.table closed.order → IsDecidedForward net (Some closed)
forward_decides controllable net closed is = (controllable net closed.table closed.order is, is)
