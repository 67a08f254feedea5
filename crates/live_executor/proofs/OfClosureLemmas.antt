-- An execution may start by the dispatchable network of a forward closed table of its network.
use Rattle.std.proofs.Common.{◌≡◌, List}
use Rattle.net_model.specs.Network.{Plan}
use Rattle.net_model.specs.declared.ids.PointId.{PointId}
use Rattle.closure_model.specs.Tables.{Graph}
use Rattle.dispatch_net.specs.Dispatchable.{DispatchLists, dispatchable}
use Rattle.closure_laws.specs.Forward.{IsDispatchedForward}
use Rattle.execution_model.proofs.GraphLemmas.{law_forward_tables_are_graphs}
use Rattle.execution_model.proofs.OfClosureLemmas.{may_dispatch}
use Rattle.live_executor.specs.Sound.{IsDispatchOf}

pub dispatch_of : (net : Plan) (table : Graph) (order : List PointId) (by : IsDispatchedForward net table order) (lists : DispatchLists)
    → lists.links ≡ net.links → lists.made ≡ dispatchable net table → IsDispatchOf net lists
dispatch_of net table order by lists links made = record {
  instant = by.instant;
  table = table;
  order = order;
  graph = law_forward_tables_are_graphs net table by.instant.sound by.forward;
  may = may_dispatch net table order by;
  links = links;
  made = made;
}
