-- A closed table with an order is a closure, by which its network may be dispatched.
use Rattle.std.proofs.Common.{List, sym, subst}
use Rattle.net_model.specs.declared.ids.PointId.{PointId}
use Rattle.dispatch_net.specs.Dispatchable.{MayDispatch}
use Rattle.dispatch_net.proofs.EarliestLemmas.{law_closures_may_dispatch}
use Rattle.closure_laws.proofs.ForwardLemmas.{law_closures_are_forward_tables}
use Rattle.execution_model.proofs.GraphLemmas.{law_forward_tables_are_graphs}
use Rattle.example_desk.proofs.executors.executor_by.Goals as goal

pub of-requires-clause-may : goal.of-requires-clause-may
of-requires-clause-may c =
    let net = c.args.net.now in
    let closed = c.args.closed.now in
    let by = c.requires.closed in
    subst (λ (o : List PointId). MayDispatch net closed.table o) (sym c.as_slice.ensures) (law_closures_may_dispatch net closed.table closed.order c.sound.ensures by.closure by.order)

pub start-requires : goal.start-requires
start-requires c =
    let net = c.args.net.now in
    let closed = c.args.closed.now in
    let by = c.requires.closed in
    let sound = c.sound.ensures in
    record {
      instant = record { sound = sound; no_delay = c.requires.no_delay };
      table = closed.table;
      order = closed.order;
      graph = law_forward_tables_are_graphs net closed.table sound (law_closures_are_forward_tables net closed.table by.closure);
      may = law_closures_may_dispatch net closed.table closed.order sound by.closure by.order;
      links = c.in_ok-dispatch.ensures.dispatchable.links;
      made = c.in_ok-dispatch.ensures.dispatchable.made;
    }
