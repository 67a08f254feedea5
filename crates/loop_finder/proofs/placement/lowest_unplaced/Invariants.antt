use Rattle.std.proofs.Common.{◌≡◌, ℕ, ◌<◌, true}
use Rattle.closure_model.specs.Orders.{contains_point}
use Rattle.loop_finder.proofs.placement.lowest_unplaced.Given as goal

abbrev pub invariant-loop-left : goal.invariant-loop-left
invariant-loop-left l = (j : ℕ) → j < l.left → contains_point l.placed.order.items (record { 0 = j }) ≡ true
