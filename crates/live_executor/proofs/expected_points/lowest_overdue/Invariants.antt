use Rattle.std.proofs.Common.{◌≡◌, ℕ, ◌<◌, false}
use Rattle.execution_model.specs.Feeds.{is_overdue}
use Rattle.live_executor.specs.Sound.{made_setting}
use Rattle.live_executor.proofs.expected_points.lowest_overdue.Given as goal

abbrev pub invariant-loop-number : goal.invariant-loop-number
invariant-loop-number l = (j : ℕ) → j < l.number → is_overdue (made_setting l.dispatched) l.moments l.moment (record { 0 = j }) ≡ false
