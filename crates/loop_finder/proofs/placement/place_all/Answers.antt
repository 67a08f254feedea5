use Rattle.std.proofs.Common.{◌≡◌, ◌∙◌, ap, suc, ◌+◌, arith}
use Rattle.closure_model.specs.Orders.{place_next, placed_after}
use Rattle.loop_finder.proofs.placement.place_all.Goals as goal

pub loop-step-preserved : goal.loop-step-preserved
loop-step-preserved c = record {
  marks = c.in_ok-place_next.ensures.marks ∙ c.loop-step.invariant.marks;
  placement = c.in_ok-place_next.ensures.placement;
  placed = c.in_ok-place_next.ensures.placed ∙ ap (place_next c.args.table.now) c.loop-step.invariant.placed ∙ (let next : suc c.loop-step._step ≡ c.loop-step._step + 1 = omega arith in ap (placed_after c.args.table.now) next);
}
