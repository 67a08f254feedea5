use Rattle.std.proofs.Common.{◌≡◌, ℕ, ◌<◌, false}
use Rattle.execution_model.specs.Feeds.{is_open}
use Rattle.live_executor.specs.Sound.{made_setting}
use Rattle.live_executor.proofs.execution_state.ExecutionState.first_open.Given as goal

abbrev pub invariant-loop-number : goal.invariant-loop-number
invariant-loop-number l = (j : ℕ) → j < l.number → is_open (made_setting l.dispatched) l.self.moments (record { 0 = j }) ≡ false
