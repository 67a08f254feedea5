use Rattle.std.proofs.Common.{◌≡◌, ℕ, ◌<◌, false}
use Rattle.closure_model.specs.Orders.{is_free}
use Rattle.example_references.specs.NodeTables.{table_in}
use Rattle.example_references.proofs.orders.lowest_free.Given as goal

abbrev pub invariant-loop-point : goal.invariant-loop-point
invariant-loop-point l = (j : ℕ) → j < l.point → is_free (table_in l.net l.nodes) l.placed (record { 0 = j }) ≡ false
