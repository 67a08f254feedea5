-- The walk so far is that of the definition.
use Rattle.std.proofs.Common.{◌≡◌, ◌+◌, ◌-◌, ◌==◌, ℕ, List, drop, Some, None, sym, ap, ◌∙◌, arith}
use Rattle.std.specs.List.{position_or_len}
use Rattle.net_model.specs.declared.ids.PointId.{PointId}
use Rattle.closure_model.specs.Orders.{cycle_after, contains_point}
use Rattle.example_references.specs.NodeTables.{table_in}
use Rattle.example_references.proofs.CycleSteps.{step_met, step_on, same_items}
use Rattle.example_references.proofs.orders.cycle_from.Goals as goal

pub returns-then-contains_point : goal.returns-then-contains_point
returns-then-contains_point c =
    same_items (λ v. v.items) c.from_place_of.result _ _ c.from_place_of.ensures
    (ap (λ (xs : List PointId). drop (position_or_len (λ (other : PointId). other.0 == c.loop-step.point.0) xs) xs) c.as_slice-then-contains_point.ensures.value
    ∙ sym (step_met (table_in c.args.net.now c.args.nodes.now) c.args.placed.now c.loop-step.walk.items c.loop-step.point (c.points-count.result + 1 - c.loop-step._step) (c.points-count.result - c.loop-step._step) (omega arith)
    (ap (λ (xs : List PointId). contains_point xs c.loop-step.point) (sym c.as_slice.ensures.value) ∙ sym c.if-contains_point.ensures))
    ∙ c.loop-step.invariant)

pub returns-in-None : goal.returns-in-None
returns-in-None c =
    c.new.ensures.items
    ∙ sym (step_on (table_in c.args.net.now c.args.nodes.now) c.args.placed.now c.loop-step.walk.items c.push.new.self.items c.loop-step.point None (c.points-count.result + 1 - c.loop-step._step) (c.points-count.result - c.loop-step._step)
    (omega arith)
    (ap (λ (xs : List PointId). contains_point xs c.loop-step.point) (sym c.as_slice.ensures.value) ∙ sym c.if-contains_point.ensures) (sym c.in-None.ensures) c.in_ok-push.ensures.items)
    ∙ c.loop-step.invariant

pub loop-step-preserved : goal.loop-step-preserved
loop-step-preserved c =
    let less : c.points-count.result + 1 - (c.loop-step._step + 1) ≡ c.points-count.result - c.loop-step._step = omega arith in
    ap (λ (m : ℕ). cycle_after (table_in c.args.net.now c.args.nodes.now) c.args.placed.now m c.push.new.self.items c.in-Some.next) less
    ∙ sym (step_on (table_in c.args.net.now c.args.nodes.now) c.args.placed.now c.loop-step.walk.items c.push.new.self.items c.loop-step.point (Some c.in-Some.next) (c.points-count.result + 1 - c.loop-step._step)
    (c.points-count.result - c.loop-step._step) (omega arith)
    (ap (λ (xs : List PointId). contains_point xs c.loop-step.point) (sym c.as_slice.ensures.value) ∙ sym c.if-contains_point.ensures) (sym c.in-Some.ensures) c.in_ok-push.ensures.items)
    ∙ c.loop-step.invariant
