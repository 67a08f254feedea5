use Rattle.std.proofs.Common.{sym, subst}
use Rattle.closure_model.specs.Tables.{Graph}
use Rattle.dispatch_net.proofs.EarliestLemmas.{law_closures_may_dispatch}
use Rattle.dispatch_net.specs.Dispatchable.{MayDispatch}
use Rattle.net_model.specs.declared.ids.PointId.{PointId}
use Rattle.std.specs.Prelude.{List}
use Rattle.parallel_rounds.specs.Propagated.{OutcomeHolds}
use Rattle.parallel_rounds.specs.declared.outcome.Outcome.TheVariants.{Closed}
use Rattle.example_rounds.proofs.dispatches.dispatch.Goals as goal

-- a closed end of the rounds is a closure with an order, by which its network may be dispatched
pub of-requires-2-clause-may : goal.of-requires-2-clause-may
of-requires-2-clause-may g c =
    let net = c.args.net.now in
    let after = c.propagate.new.store in
    let order = c.in-Closed.order in
    let says : OutcomeHolds net after (Closed c.in-Closed.rounds order) = subst (OutcomeHolds net after) c.in-Closed.is c.in_ok-order.ensures.says in
    subst (λ (o : List PointId). MayDispatch net c.table.result.now o) (sym c.as_slice.ensures)
    (subst (λ (t : Graph). MayDispatch net t order) (sym c.table.ensures) (law_closures_may_dispatch net after.table order c.points-points.ensures.sound says.0 says.1))
