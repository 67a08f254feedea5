use Rattle.std.proofs.Common.{◌≡◌, ◌+◌, ◌-◌, ◌==◌, drop, Some, None, sym, ap, ◌∙◌, arith}
use Rattle.std.specs.List.{position_or_len}
use Rattle.net_model.specs.declared.ids.PointId.{PointId}
use Rattle.closure_model.specs.Orders.{placed_points, cycle_after, cycle_from}
use Rattle.closure_model.specs.Tables.{Graph}
use Rattle.loop_finder.specs.NegativeSuccessors.{AreNegativeSuccessors}
use Rattle.loop_finder.proofs.FoundLemmas.{step_met, step_on, if_items}
use Rattle.loop_finder.proofs.FreeLemmas.{read_targets, read_within, next_read, found_within}
use Rattle.loop_finder.proofs.placement.cycle_from.Goals as goal

pub next_in-requires : goal.next_in-requires
next_in-requires c = read_within c.args.lists.now c.args.points _ c.loop-step.point.0 c.as_slice-targets.result.now c.requires.within c.requires.marks
    (read_targets c.args.lists.now c.loop-step.point.0 c.as_slice-targets.result.now c.index-lists-point.result (omega (arith, c.loop-step.invariant.2, c.requires.lists)) c.as_slice-targets.ensures c.index-lists-point.is)

pub returns-then-has : goal.returns-then-has
returns-then-has c =
    if_items (λ v. v.items) c.from_place_of.result (drop (position_or_len (λ (other : PointId). other.0 == c.loop-step.point.0) c.as_slice.result.now) c.as_slice.result.now)
    (λ xs. (graph : Graph) → graph.shape.points ≡ c.args.points → AreNegativeSuccessors graph c.args.lists.now → c.args.placed.now.order.items ≡ placed_points graph → xs ≡ cycle_from graph c.args.first) c.from_place_of.ensures
    (λ graph same are placed.
    ap (λ xs. drop (position_or_len (λ (other : PointId). other.0 == c.loop-step.point.0) xs) xs) c.as_slice.ensures.value
    ∙ sym (step_met graph c.args.placed.now.order.items c.loop-step.walk.order.items c.loop-step.point (c.args.points + 1 - c.loop-step._step) (c.args.points - c.loop-step._step) (omega arith) (sym c.if-has.ensures))
    ∙ c.loop-step.invariant.0 graph same are placed)

pub returns-in-None : goal.returns-in-None
returns-in-None c = λ graph same are placed.
    c.new.ensures.items
    ∙ sym (step_on graph c.args.placed.now.order.items c.loop-step.walk.order.items c.push.new.self.order.items c.loop-step.point None (c.args.points + 1 - c.loop-step._step) (c.args.points - c.loop-step._step) (omega arith)
    (sym c.if-has.ensures)
    (next_read graph c.args.lists.now are c.args.placed.now.order.items c.loop-step.point c.as_slice-targets.result.now None (omega (arith, c.loop-step.invariant.2, c.requires.lists))
    (read_targets c.args.lists.now c.loop-step.point.0 c.as_slice-targets.result.now c.index-lists-point.result (omega (arith, c.loop-step.invariant.2, c.requires.lists)) c.as_slice-targets.ensures c.index-lists-point.is)
    c.in-None.ensures) c.in_ok-push.ensures.order)
    ∙ c.loop-step.invariant.0 graph same are placed

pub loop-step-preserved : goal.loop-step-preserved
loop-step-preserved c =
    let less : c.args.points + 1 - (c.loop-step._step + 1) ≡ c.args.points - c.loop-step._step = omega arith in
    let low = found_within c.args.lists.now c.args.points c.args.placed.now.order.items c.loop-step.point.0 c.as_slice-targets.result.now c.requires.within
    (read_targets c.args.lists.now c.loop-step.point.0 c.as_slice-targets.result.now c.index-lists-point.result (omega (arith, c.loop-step.invariant.2, c.requires.lists)) c.as_slice-targets.ensures c.index-lists-point.is)
    c.in-Some.next c.in-Some.ensures in (
      (λ graph same are placed.
          ap (λ m. cycle_after graph c.args.placed.now.order.items m c.push.new.self.order.items c.in-Some.next) less
          ∙ sym (step_on graph c.args.placed.now.order.items c.loop-step.walk.order.items c.push.new.self.order.items c.loop-step.point (Some c.in-Some.next) (c.args.points + 1 - c.loop-step._step) (c.args.points - c.loop-step._step)
          (omega arith) (sym c.if-has.ensures)
          (next_read graph c.args.lists.now are c.args.placed.now.order.items c.loop-step.point c.as_slice-targets.result.now (Some c.in-Some.next) (omega (arith, c.loop-step.invariant.2, c.requires.lists))
          (read_targets c.args.lists.now c.loop-step.point.0 c.as_slice-targets.result.now c.index-lists-point.result (omega (arith, c.loop-step.invariant.2, c.requires.lists)) c.as_slice-targets.ensures c.index-lists-point.is)
          c.in-Some.ensures) c.in_ok-push.ensures.order)
          ∙ c.loop-step.invariant.0 graph same are placed),
      c.in_ok-push.ensures.marks ∙ c.loop-step.invariant.1,
      low,
    )
