-- An execution of a network by a forward closed table of it, and the same execution by its closure.
use Rattle.std.specs.Prelude.{◌≡◌, List, length, Some, IsSome, Ok}
use Rattle.std.specs.List.{All}
use Rattle.net_model.specs.Network.{Plan}
use Rattle.net_model.specs.declared.ids.PointId.{PointId}
use Rattle.closure_model.specs.Tables.{Graph}
use Rattle.closure_laws.specs.Forward.{IsDispatchedForward}
use Rattle.canonical_closure.specs.CanonicalClosure.{canonical_closure}
use Rattle.dispatch_net.specs.Dispatchable.{DispatchLists, dispatchable}
use Rattle.dispatch_net.specs.Slim.{slimmed}
use Rattle.dispatch_net.specs.declared.dispatch.Conditions.{Conditions}
use Rattle.execution_model.specs.Alike.{by_lists}
use Rattle.execution_model.specs.Feeds.{Execution, started}
use Rattle.execution_model.specs.Laws.{setting_of}
use Rattle.execution_model.specs.Streams.{Listing}
use Rattle.execution_model.specs.Timely.{fed_all}
use Rattle.execution_model.specs.declared.feed_answers.Why.{Why}

-- what was made of a dispatchable network is that of a forward closed table of a network, with an order
pub record IsForwardDispatch (net : Plan) (lists : DispatchLists) : Type 0 where
  pub table : Graph
  pub order : List PointId
  pub dispatched : IsDispatchedForward net table order
  pub links : lists.links ≡ net.links
  pub made : lists.made ≡ dispatchable net table

-- no lower bound or wait that is kept of a dispatchable network is implied by others that are kept
abbrev pub IsSlim : DispatchLists → Type 0
IsSlim lists = slimmed lists.links lists.kept ≡ lists.kept

-- the lower bounds and waits of the closure of a network
abbrev pub closure_lists : Plan → List Conditions
closure_lists net = dispatchable net (canonical_closure net)

-- an execution of the same state, by the closure
abbrev pub by_closure : Plan → Execution → Execution
by_closure net execution = by_lists (closure_lists net) execution

-- an execution in which every point has come
pub record HasAllCome (execution : Execution) : Type 0 where
  pub long : length execution.moments ≡ length execution.setting.dispatch
  pub come : All IsSome execution.moments

-- how far an execution has come from its start: it was fed these listings; or a feed after them was refused; or every point has come
pub data ComesFrom (start : Execution) : Execution → Type 0 where
  fed : (listings : List Listing) (execution : Execution) → fed_all start listings ≡ Ok execution → ComesFrom start execution
  refused : (listings : List Listing) (before execution : Execution) (cause : Why) → fed_all start listings ≡ Ok before
      → execution ≡ record before { refused = Some cause } → ComesFrom start execution
  over : (execution : Execution) → execution.setting ≡ start.setting → HasAllCome execution → ComesFrom start execution

-- an execution of a network by a forward closed table of it
pub record IsForwardExecution (net : Plan) (execution : Execution) : Type 0 where
  pub table : Graph
  pub order : List PointId
  pub dispatched : IsDispatchedForward net table order
  pub comes : ComesFrom (started (setting_of net table)) execution
  pub count : length (closure_lists net) ≡ length execution.setting.dispatch
