use Rattle.std.proofs.Common.{◌≡◌, ◌+◌, ◌-◌}
use Rattle.closure_model.specs.Orders.{cycle_after, cycle_from}
use Rattle.example_references.specs.NodeTables.{table_in}
use Rattle.example_references.proofs.orders.cycle_from.Given as goal

abbrev pub invariant-loop-step : goal.invariant-loop-step
invariant-loop-step l =
    cycle_after (table_in l.net l.nodes) l.placed (l.count + 1 - l._step) l.walk.items l.point ≡ cycle_from (table_in l.net l.nodes) l.fn.first
