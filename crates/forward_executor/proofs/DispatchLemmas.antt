-- The dispatchable network of the closure is that of a forward closed table.
use Rattle.net_model.specs.Network.{Plan}
use Rattle.strategy_model.specs.Plays.{IsInstant}
use Rattle.dispatch_net.specs.Dispatchable.{DispatchLists}
use Rattle.dispatch_net.specs.OfClosure.{IsDispatchOfClosure}
use Rattle.execution_model.proofs.OfClosureLemmas.{by_closure}
use Rattle.forward_executor.specs.ForwardExecutions.{IsForwardDispatch}

pub closure_dispatches : (net : Plan) (lists : DispatchLists) → IsInstant net → IsDispatchOfClosure net lists → IsForwardDispatch net lists
closure_dispatches net lists instant is =
    record { table = is.table; order = is.order; dispatched = by_closure net lists instant is; links = is.by.links; made = is.by.made }
