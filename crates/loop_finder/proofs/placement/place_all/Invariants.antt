use Rattle.std.proofs.Common.{◌≡◌, length}
use Rattle.closure_model.specs.Orders.{placed_after}
use Rattle.loop_finder.specs.OpenEdges.{IsPlacement}
use Rattle.loop_finder.proofs.placement.place_all.Given as goal

abbrev pub invariant-loop-step : goal.invariant-loop-step
invariant-loop-step l = record {
  marks : length l.placement.placed.marks.items ≡ l.points;
  placement : IsPlacement l.table l.placement.placed.order.items l.placement.left.items l.placement.free;
  placed : l.placement.placed.order.items ≡ placed_after l.table l._step;
}
