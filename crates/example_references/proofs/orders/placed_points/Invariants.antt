use Rattle.std.proofs.Common.{◌≡◌}
use Rattle.closure_model.specs.Orders.{placed_after}
use Rattle.example_references.specs.NodeTables.{table_in}
use Rattle.example_references.proofs.orders.placed_points.Given as goal

abbrev pub invariant-loop-step : goal.invariant-loop-step
invariant-loop-step l = l.placed.items ≡ placed_after (table_in l.net l.nodes) l._step
