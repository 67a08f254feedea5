use Rattle.std.proofs.Common.{List, ap, sym, subst}
use Rattle.net_model.specs.Network.{Plan}
use Rattle.net_model.specs.declared.ids.PointId.{PointId}
use Rattle.strategy_model.specs.Plays.{IsInstant}
use Rattle.dispatch_net.specs.Dispatchable.{MayDispatch}
use Rattle.network_closure.specs.Saturation.{ClosesTo, IsClosedBy}
use Rattle.plan_session.proofs.SessionLemmas.{shown_instant}
use Rattle.verdicts.specs.Decisions.{IsOrderedClosure}
use Rattle.verdicts.proofs.DecisionLemmas.{closes_decides}
use Rattle.session_command.proofs.DecidedLemmas.{none_says, table_says}
use Rattle.session_command.proofs.decided_network.dispatch_of_closure.Goals as goal

pub of-requires-clause-may : goal.of-requires-clause-may
of-requires-clause-may g c =
    let shown = c.in_ok-shown.shown in
    let closed = c.in-Some.closed in
    let instant = subst IsInstant (sym c.in_ok-shown.ensures) (shown_instant c.args.net.now c.sound.ensures) in
    let is : IsClosedBy shown closed = subst (ClosesTo shown) c.in-Some.is c.in_ok-closed.ensures in
    subst (λ (order : List PointId). MayDispatch shown closed.table order) (sym c.as_slice.ensures)
    (c.law_closures_may_dispatch.ensures shown closed.table closed.order instant.sound is.closure is.order)

pub of-requires-clause-no_delay : goal.of-requires-clause-no_delay
of-requires-clause-no_delay g c = ap (λ (net : Plan). net.delay) c.in_ok-shown.ensures

pub returns-in_ok-dispatch-in-Some : goal.returns-in_ok-dispatch-in-Some
returns-in_ok-dispatch-in-Some g c =
    let net = c.args.net.now in
    let shown = c.in_ok-shown.shown in
    let closed = c.in-Some.closed in
    let instant = subst IsInstant (sym c.in_ok-shown.ensures) (shown_instant net c.sound.ensures) in
    let decided = closes_decides c.law_ordered_closures_are_controllable.ensures c.law_cycles_of_tables_exclude.ensures shown instant _ c.in_ok-closed.ensures in
    let is : IsClosedBy shown closed = subst (ClosesTo shown) c.in-Some.is c.in_ok-closed.ensures in
    let said = c.in_ok-dispatch-in-Some.ensures in (
      table_says c.law_controllable_is_shown.ensures net shown c.sound.ensures c.in_ok-shown.ensures IsOrderedClosure _ closed decided c.in-Some.is,
      c.in_ok-shown.ensures,
      record { table = closed.table; order = closed.order; closure = is.closure; ordered = is.order; by = said.dispatchable; whole = said.whole },
    )

pub returns-in-None : goal.returns-in-None
returns-in-None g c =
    let net = c.args.net.now in
    let shown = c.in_ok-shown.shown in
    let instant = subst IsInstant (sym c.in_ok-shown.ensures) (shown_instant net c.sound.ensures) in
    let decided = closes_decides c.law_ordered_closures_are_controllable.ensures c.law_cycles_of_tables_exclude.ensures shown instant _ c.in_ok-closed.ensures in
    none_says c.law_controllable_is_shown.ensures net shown c.sound.ensures c.in_ok-shown.ensures IsOrderedClosure _ decided c.in-None.is
