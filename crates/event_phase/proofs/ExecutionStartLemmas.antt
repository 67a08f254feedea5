-- The start of an execution, by the closure of its network.
use Rattle.std.proofs.Common.{◌≡◌, ℕ, List, ap, subst}
use Rattle.net_model.specs.Network.{Plan}
use Rattle.canonical_closure.specs.CanonicalClosure.{IsDispatchedByClosure, canonical_closure}
use Rattle.closure_model.specs.Orders.{placed_points}
use Rattle.execution_model.specs.Feeds.{started, IsDueAnswer}
use Rattle.execution_model.specs.Laws.{setting_of}
use Rattle.command_engine.specs.declared.machines.Flow.TheVariants.{Continue}
use Rattle.event_phase.specs.ExecutionStart.{BeginsExecutionBy, PutsStart}
use Rattle.event_phase.specs.EventRuns.{EventRun, event_run_by}
use Rattle.event_phase.specs.CompletionOrders.{CompletionOrder}

module _ (completion_order : CompletionOrder) (net : Plan) (by : IsDispatchedByClosure net (canonical_closure net) (placed_points (canonical_closure net))) where
  -- if this is put, it starts so
  pub begins_so : (state : EventRun) → state ≡ event_run_by completion_order net (started (setting_of net (canonical_closure net)))
      → (put : List ℕ) → PutsStart state.execution put → BeginsExecutionBy completion_order net put (Continue state)
  begins_so state is put (due, first, puts) = record {
    table = canonical_closure net;
    order = placed_points (canonical_closure net);
    by_closure = by;
    due = due;
    first = subst (λ (s : EventRun). IsDueAnswer s.execution due) is first;
    put = puts;
    goes = ap Continue is;
  }
