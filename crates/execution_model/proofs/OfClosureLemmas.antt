-- A network that is dispatched by a forward closed table may be dispatched by it; its closure with an order is such a table, and has a dispatchable network.
use Rattle.std.proofs.Common.{◌≡◌, List, length, Result, Ok, Err, IfOk}
use Rattle.net_model.specs.Network.{Plan}
use Rattle.net_model.specs.declared.ids.PointId.{PointId}
use Rattle.strategy_model.specs.Plays.{IsInstant}
use Rattle.closure_model.specs.Closure.{IsClosure}
use Rattle.closure_model.specs.Orders.{IsOrder}
use Rattle.closure_model.specs.Tables.{Graph}
use Rattle.closure_laws.specs.Forward.{IsDispatchedForward}
use Rattle.closure_laws.proofs.ForwardLemmas.{law_closures_are_forward_tables}
use Rattle.dispatch_net.specs.Dispatchable.{MayDispatch, DispatchLists, IsDispatchBy}
use Rattle.dispatch_net.specs.OfClosure.{IsDispatchOfClosure}
use Rattle.dispatch_net.proofs.EarliestLemmas.{law_forward_tables_may_dispatch}

-- an instant network with the dispatchable network of its closure
pub by_closure : (net : Plan) (lists : DispatchLists) → IsInstant net → (is : IsDispatchOfClosure net lists) → IsDispatchedForward net is.table is.order
by_closure net lists instant is = record { instant = instant; forward = law_closures_are_forward_tables net is.table is.closure; ordered = is.ordered }

pub may_dispatch : (net : Plan) (table : Graph) (order : List PointId) → IsDispatchedForward net table order → MayDispatch net table order
may_dispatch net table order by = law_forward_tables_may_dispatch net table order by.instant.sound by.forward by.ordered

-- what is made by the closure is the dispatchable network of it
pub made_by : (net : Plan) (table : Graph) (order : List PointId) → IsClosure net table → IsOrder table order → {E : Type 0} (answer : Result DispatchLists E)
    → IfOk answer (IsDispatchBy net table) → IfOk answer (λ lists. length lists.made ≡ length net.points) → IfOk answer (IsDispatchOfClosure net)
made_by net table order closure ordered (Ok lists) is whole = record { table = table; order = order; closure = closure; ordered = ordered; by = is; whole = whole }
made_by net table order closure ordered (Err error) is whole = tt
