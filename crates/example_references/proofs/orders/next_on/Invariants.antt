use Rattle.std.proofs.Common.{◌≡◌, ℕ, ◌<◌, false}
use Rattle.closure_model.specs.Orders.{goes_on}
use Rattle.example_references.specs.NodeTables.{table_in}
use Rattle.example_references.proofs.orders.next_on.Given as goal

abbrev pub invariant-loop-to : goal.invariant-loop-to
invariant-loop-to l = (j : ℕ) → j < l.to → goes_on (table_in l.net l.nodes) l.placed l.from (record { 0 = j }) ≡ false
