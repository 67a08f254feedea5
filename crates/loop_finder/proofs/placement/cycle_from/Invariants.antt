use Rattle.std.proofs.Common.{◌≡◌, ◌+◌, ◌-◌, ◌<◌, length}
use Rattle.closure_model.specs.Orders.{placed_points, cycle_after, cycle_from}
use Rattle.closure_model.specs.Tables.{Graph}
use Rattle.loop_finder.specs.NegativeSuccessors.{AreNegativeSuccessors}
use Rattle.loop_finder.proofs.placement.cycle_from.Given as goal

abbrev pub invariant-loop-step : goal.invariant-loop-step
invariant-loop-step l =
    ((graph : Graph) → graph.shape.points ≡ l.points → AreNegativeSuccessors graph l.lists → l.placed.order.items ≡ placed_points graph
    → cycle_after graph l.placed.order.items (l.points + 1 - l._step) l.walk.order.items l.point ≡ cycle_from graph l.fn.first)
    × (length l.walk.marks.items ≡ l.points) × (l.point.0 < l.points)
