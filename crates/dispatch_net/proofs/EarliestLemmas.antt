-- Forward closed tables of derivable edges, the closure among them: a network may be dispatched by them, and the executions are the earliest schedules.
use Rattle.closure_model.proofs.BaseLemmas.{forward_closed_has_base}
use Rattle.closure_model.proofs.DerivableEdges.{derivable_within}
use Rattle.closure_laws.proofs.ForwardLemmas.{law_closures_are_forward_tables, law_forward_tables_dispatch_earliest}
use Rattle.dispatch_net.specs.Laws.{ForwardTablesMayDispatch, ClosuresMayDispatch, ForwardTablesExecuteEarliest}
use Rattle.dispatch_net.proofs.ExecutionLemmas.{law_executions_are_dispatched}

pub law_forward_tables_may_dispatch : ForwardTablesMayDispatch
law_forward_tables_may_dispatch net table order plan is ordered =
    record {
      for_network = is.for_network;
      base = forward_closed_has_base net table is.closed;
      closed = is.closed;
      within = λ edge has. derivable_within net plan edge (is.derivable edge has);
      ordered = ordered;
    }

pub law_closures_may_dispatch : ClosuresMayDispatch
law_closures_may_dispatch net table order plan closure =
    law_forward_tables_may_dispatch net table order plan (law_closures_are_forward_tables net table closure)

pub law_forward_tables_execute_earliest : ForwardTablesExecuteEarliest
law_forward_tables_execute_earliest net table order situation schedule is sound is_situation =
    let dispatch = law_forward_tables_dispatch_earliest net table order situation schedule is is_situation in
    let executed = law_executions_are_dispatched net table situation schedule is.forward.for_network sound in (
      λ earliest. executed.1 (dispatch.0 earliest),
      λ execution. dispatch.1 (executed.0 execution),
    )
