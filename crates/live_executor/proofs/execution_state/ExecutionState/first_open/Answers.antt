use Rattle.std.proofs.Common.{sym, length, arith}
use Rattle.execution_model.specs.Feeds.{is_open}
use Rattle.closure_model.proofs.OrderLemmas.{found_at, found_nowhere}
use Rattle.live_executor.specs.Sound.{made_setting}
use Rattle.live_executor.proofs.execution_state.ExecutionState.first_open.Goals as goal

pub returns-then-is_open : goal.returns-then-is_open
returns-then-is_open c =
    sym (found_at (is_open (made_setting c.args.dispatched.now) c.args.self.now.moments) (length c.args.dispatched.now.made) c.loop-number.number (omega arith) (sym c.if-is_open.ensures) c.loop-number.invariant)

pub returns : goal.returns
returns c =
    sym (found_nowhere (is_open (made_setting c.args.dispatched.now) c.args.self.now.moments) (length c.args.dispatched.now.made) (λ j less. c.loop-number.invariant j (omega arith)))
