use Rattle.std.proofs.Common.{◌≡◌, List, length, ap, sym, subst}
use Rattle.net_model.specs.Network.{Plan}
use Rattle.net_model.specs.ShownForm.{shown_form}
use Rattle.net_model.specs.declared.ids.PointId.{PointId}
use Rattle.net_model.proofs.ShownLemmas.{shown_sound}
use Rattle.closure_model.specs.Tables.{Graph}
use Rattle.dispatch_net.specs.Dispatchable.{IsDispatchBy, MayDispatch}
use Rattle.parallel_rounds.specs.Propagated.{ending_of}
use Rattle.plan_session.proofs.SessionLemmas.{closed_controls, closed_well, looped_excludes, shown_instant}
use Rattle.plan_session.proofs.propagated.Propagated.dispatch.Goals as goal

pub of-requires-clause-may : goal.of-requires-clause-may
of-requires-clause-may c =
    let net = shown_form c.args.network.now.net in
    let order = c.in-Closed.order in
    let well = closed_well net _ c.requires.sound order (ap ending_of c.in-Closed.is) in
    let may : MayDispatch net c.args.self.now.store.table order = c.law_closures_may_dispatch.ensures net c.args.self.now.store.table order (shown_sound c.args.network.now.net c.sound.ensures) well.0 well.1 in
    subst (λ (n : Plan). MayDispatch n c.table-table.result.now c.as_slice.result.now) (sym c.shown.ensures)
    (subst (λ (table : Graph). MayDispatch net table c.as_slice.result.now) (sym c.table-table.ensures) (subst (λ (points : List PointId). MayDispatch net c.args.self.now.store.table points) (sym c.as_slice.ensures) may))

pub returns-in_ok-dispatch-in-Closed : goal.returns-in_ok-dispatch-in-Closed
returns-in_ok-dispatch-in-Closed c =
    let stated = c.args.network.now.net in
    let net = shown_form stated in
    let order = c.in-Closed.order in
    let dispatch = c.in_ok-dispatch-in-Closed.dispatch in
    let is = ap ending_of c.in-Closed.is in
    let well = closed_well net _ c.requires.sound order is in
    let said = c.in_ok-dispatch-in-Closed.ensures in
    let shows = c.law_controllable_is_shown.ensures stated c.sound.ensures in (
      shows.1 (closed_controls net _ c.requires.sound c.law_ordered_closures_are_controllable.ensures (shown_instant stated c.sound.ensures) order is),
      record {
        table = c.args.self.now.store.table;
        order = order;
        closure = well.0;
        ordered = well.1;
        by = subst (λ (table : Graph). IsDispatchBy net table dispatch) c.table-table.ensures (subst (λ (n : Plan). IsDispatchBy n c.table-table.result.now dispatch) c.shown.ensures said.dispatchable);
        whole = subst (λ (n : Plan). length dispatch.made ≡ length n.points) c.shown.ensures said.whole;
      },
    )

pub returns-in-Looped : goal.returns-in-Looped
returns-in-Looped c =
    let net = c.args.network.now.net in
    λ controls. looped_excludes (shown_form net) _ c.requires.sound c.law_standing_cycles_exclude.ensures (shown_instant net c.sound.ensures) c.in-Looped.cycle (ap ending_of c.in-Looped.is)
    ((c.law_controllable_is_shown.ensures net c.sound.ensures).0 controls)
