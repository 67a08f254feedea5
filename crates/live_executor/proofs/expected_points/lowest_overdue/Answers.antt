use Rattle.std.proofs.Common.{sym, arith}
use Rattle.live_executor.specs.Sound.{made_setting}
use Rattle.live_executor.proofs.CompletionLemmas.{overdue_at, overdue_nowhere}
use Rattle.live_executor.proofs.expected_points.lowest_overdue.Goals as goal

pub returns-then-latest-moment : goal.returns-then-latest-moment
returns-then-latest-moment c =
    sym (overdue_at (made_setting c.args.dispatched.now) c.args.moments.now c.args.moment c.loop-number.number c.in-Some.latest (omega arith) (sym c.in-Some.ensures) c.if-latest-moment.true c.loop-number.invariant)

pub returns : goal.returns
returns c = sym (overdue_nowhere (made_setting c.args.dispatched.now) c.args.moments.now c.args.moment (λ j less. c.loop-number.invariant j (omega arith)))
