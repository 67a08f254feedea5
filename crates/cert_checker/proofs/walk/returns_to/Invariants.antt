use Rattle.std.proofs.Common.{◌≡◌, ◌+◌, ◌≤◌, length, drop}
use Rattle.cert_checker.specs.Walk.{returns_to, walked}
use Rattle.cert_checker.proofs.walk.returns_to.Given as goal

abbrev pub invariant-loop-step : goal.invariant-loop-step
invariant-loop-step l =
    (l.place ≤ length l.lines + 1 + l.step-index) × (returns_to l.first.from l.place l.last (walked l.lines (drop l.step-index l.rest)) ≡ returns_to l.first.from (length l.lines + 1) l.first (walked l.lines l.rest))
