-- Each turn makes one round of the definition, and they end as what is found or what improved says.
use Rattle.std.proofs.Common.{◌≡◌, ◌≢◌, ◌+◌, true, List, [], length, Option, arith, ap, sym, subst, ◌∙◌}
use Rattle.std.specs.Prelude.{IfSome, MatchOption}
use Rattle.std.proofs.lemmas.Result.{IfOk-weaker}
use Rattle.net_model.specs.declared.ids.PointId.{PointId}
use Rattle.closure_model.specs.Keys.{Shape}
use Rattle.closure_model.specs.Orders.{IsOrder, lowest_unplaced, placed_points}
use Rattle.closure_model.specs.ReferenceRound.{round_made}
use Rattle.closure_model.specs.Tables.{Graph}
use Rattle.closure_model.proofs.OrderStays.{law_ordered_tables_are_placed}
use Rattle.closure_model.proofs.RoundClosure.{standing_fits}
use Rattle.parallel_rounds.specs.Placement.{IsPlaced}
use Rattle.parallel_rounds.specs.Propagated.{IsPropagated}
use Rattle.parallel_rounds.specs.LastRounds.{IsLastRound}
use Rattle.parallel_rounds.specs.declared.outcome.Outcome.TheVariants.{Closed}
use Rattle.parallel_rounds.specs.declared.last_round.LastRound.{LastRound}
use Rattle.parallel_rounds.proofs.RoundsSteps.{rounds_at_start, rounds_go_on, rounds_left_decrease, rounds_close, rounds_loop, rounds_fit, closed_points, still_placed, kept_order}
use Rattle.parallel_rounds.proofs.workers.Workers.propagate.Goals as goal

pub loop-last-init : goal.loop-last-init
loop-last-init g c = record { progress = rounds_at_start c.args.net.now (g.S.Supports.support c.args.store.now) c.requires; kept = tt; informed = tt }

pub place-requires-clause-points : goal.place-requires-clause-points
place-requires-clause-points g c =
    ap length c.points.ensures.points ∙ (sym (ap (λ (s : Shape). s.points) (standing_fits c.args.net.now c.points.ensures.sound (g.S.Supports.support c.loop-last.store) c.loop-last.invariant.progress.stands))
    ∙ sym (ap (λ (t : Graph). t.shape.points) c.table.ensures))

pub overflow_add-rounds : goal.overflow_add-rounds
overflow_add-rounds g c = omega (arith, rounds_fit c.args.net.now (g.S.Supports.support c.args.store.now) (g.S.Supports.support c.loop-last.store) c.loop-last.rounds c.points.ensures.sound c.loop-last.invariant.progress)

pub returns-in-Cyclic : goal.returns-in-Cyclic
returns-in-Cyclic g c =
    let round = subst (IsPlaced (g.S.Supports.support c.loop-last.store).table) c.in-Cyclic.is (subst (λ (t : Graph). IsPlaced t c.in_ok-order.field-0) c.table.ensures c.in_ok-order.ensures) in
    rounds_loop c.args.net.now (g.S.Supports.support c.args.store.now) (g.S.Supports.support c.loop-last.store) c.loop-last.rounds c.in-Cyclic.cycle c.points.ensures.sound c.loop-last.invariant.progress round.0 round.1

pub closed-requires-clause-points : goal.closed-requires-clause-points
closed-requires-clause-points g c =
    ap length c.points.ensures.points
    ∙ (closed_points c.args.net.now (g.S.Supports.support c.args.store.now) (g.S.Supports.support c.loop-last.store) (g.S.Supports.support c.make_round.new.store) c.loop-last.rounds c.points.ensures.sound c.loop-last.invariant.progress
    c.in_ok-make_round.ensures.after (subst (λ (o : Option LastRound). MatchOption o ((round_made c.args.net.now (g.S.Supports.support c.loop-last.store).table) ≡ [])
    (λ last. ((round_made c.args.net.now (g.S.Supports.support c.loop-last.store).table) ≢ []) × IsLastRound c.args.net.now (g.S.Supports.support c.make_round.new.store).table last)) c.in-None.is c.in_ok-make_round.ensures.improved)
    ∙ sym (ap (λ (t : Graph). t.shape.points) c.table-in-None.ensures))

pub closed-requires-clause-placed : goal.closed-requires-clause-placed
closed-requires-clause-placed g c = ap lowest_unplaced c.table-in-None.ensures ∙ still_placed c.args.net.now (g.S.Supports.support c.loop-last.store) (g.S.Supports.support c.make_round.new.store) c.in_ok-make_round.ensures.after
    (subst (λ (o : Option LastRound). MatchOption o ((round_made c.args.net.now (g.S.Supports.support c.loop-last.store).table) ≡ []) (λ last. ((round_made c.args.net.now (g.S.Supports.support c.loop-last.store).table) ≢ [])
    × IsLastRound c.args.net.now (g.S.Supports.support c.make_round.new.store).table last)) c.in-None.is c.in_ok-make_round.ensures.improved)
    (law_ordered_tables_are_placed (g.S.Supports.support c.loop-last.store).table c.in-InOrder.order (subst (IsPlaced (g.S.Supports.support c.loop-last.store).table) c.in-InOrder.is
    (subst (λ (t : Graph). IsPlaced t c.in_ok-order.field-0) c.table.ensures c.in_ok-order.ensures)))

pub returns-in-None : goal.returns-in-None
returns-in-None g c =
    IfOk-weaker c.closed.result _ (IsPropagated c.args.net.now (g.S.Supports.support c.args.store.now) (g.S.Supports.support c.make_round.new.store))
    (λ outcome is. subst (IsPropagated c.args.net.now (g.S.Supports.support c.args.store.now) (g.S.Supports.support c.make_round.new.store))
    (sym (is ∙ ap (λ (t : Graph). Closed (c.loop-last.rounds + 1) (placed_points t)) c.table-in-None.ensures))
    (rounds_close c.args.net.now (g.S.Supports.support c.args.store.now) (g.S.Supports.support c.loop-last.store) (g.S.Supports.support c.make_round.new.store) c.loop-last.rounds c.points.ensures.sound c.loop-last.invariant.progress
    (law_ordered_tables_are_placed (g.S.Supports.support c.loop-last.store).table c.in-InOrder.order (subst (IsPlaced (g.S.Supports.support c.loop-last.store).table) c.in-InOrder.is
    (subst (λ (t : Graph). IsPlaced t c.in_ok-order.field-0) c.table.ensures c.in_ok-order.ensures))) c.in_ok-make_round.ensures.after
    (subst (λ (o : Option LastRound). MatchOption o ((round_made c.args.net.now (g.S.Supports.support c.loop-last.store).table) ≡ []) (λ last. ((round_made c.args.net.now (g.S.Supports.support c.loop-last.store).table) ≢ [])
    × IsLastRound c.args.net.now (g.S.Supports.support c.make_round.new.store).table last)) c.in-None.is c.in_ok-make_round.ensures.improved))) c.closed.ensures

pub loop-last-smaller : goal.loop-last-smaller
loop-last-smaller g c = rounds_left_decrease c.args.net.now (g.S.Supports.support c.args.store.now) (g.S.Supports.support c.loop-last.store) c.loop-last.rounds c.points.ensures.sound c.loop-last.invariant.progress
    (law_ordered_tables_are_placed (g.S.Supports.support c.loop-last.store).table c.in-InOrder.order (subst (IsPlaced (g.S.Supports.support c.loop-last.store).table) c.in-InOrder.is
    (subst (λ (t : Graph). IsPlaced t c.in_ok-order.field-0) c.table.ensures c.in_ok-order.ensures))) (subst
    (λ (o : Option LastRound). MatchOption o ((round_made c.args.net.now (g.S.Supports.support c.loop-last.store).table) ≡ []) (λ last. ((round_made c.args.net.now (g.S.Supports.support c.loop-last.store).table) ≢ [])
    × IsLastRound c.args.net.now (g.S.Supports.support c.make_round.new.store).table last)) c.in-Some.is c.in_ok-make_round.ensures.improved).0

pub loop-last-preserved : goal.loop-last-preserved
loop-last-preserved g c = record {
  progress = rounds_go_on c.args.net.now (g.S.Supports.support c.args.store.now) (g.S.Supports.support c.loop-last.store)
      (g.S.Supports.support c.make_round.new.store) c.loop-last.rounds c.points.ensures.sound c.loop-last.invariant.progress
      (law_ordered_tables_are_placed (g.S.Supports.support c.loop-last.store).table c.in-InOrder.order (subst (IsPlaced (g.S.Supports.support c.loop-last.store).table) c.in-InOrder.is
      (subst (λ (t : Graph). IsPlaced t c.in_ok-order.field-0) c.table.ensures c.in_ok-order.ensures))) c.in_ok-make_round.ensures.after
      (subst (λ (o : Option LastRound). MatchOption o ((round_made c.args.net.now (g.S.Supports.support c.loop-last.store).table) ≡ []) (λ last. ((round_made c.args.net.now (g.S.Supports.support c.loop-last.store).table) ≢ [])
      × IsLastRound c.args.net.now (g.S.Supports.support c.make_round.new.store).table last)) c.in-Some.is c.in_ok-make_round.ensures.improved).0;
  kept = subst (λ (o : Option (List PointId)). IfSome o (IsOrder (g.S.Supports.support c.make_round.new.store).table)) (sym c.order_if-kept.ensures)
      (kept_order c.in-Some.next.stays c.in-InOrder.order (IsOrder (g.S.Supports.support c.make_round.new.store).table)
      (λ is. (subst (λ (o : Option LastRound). IfSome o (λ last. last.stays ≡ true → IsOrder (g.S.Supports.support c.loop-last.store).table c.in-InOrder.order
      → IsOrder (g.S.Supports.support c.make_round.new.store).table c.in-InOrder.order)) c.in-Some.is c.in_ok-make_round.ensures.stays) is
      (subst (IsPlaced (g.S.Supports.support c.loop-last.store).table) c.in-InOrder.is (subst (λ (t : Graph). IsPlaced t c.in_ok-order.field-0) c.table.ensures c.in_ok-order.ensures))));
  informed = (subst (λ (o : Option LastRound). MatchOption o ((round_made c.args.net.now (g.S.Supports.support c.loop-last.store).table) ≡ []) (λ last. ((round_made c.args.net.now (g.S.Supports.support c.loop-last.store).table) ≢ [])
      × IsLastRound c.args.net.now (g.S.Supports.support c.make_round.new.store).table last)) c.in-Some.is c.in_ok-make_round.ensures.improved).1;
}
