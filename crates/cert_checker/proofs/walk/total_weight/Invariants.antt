use Rattle.std.proofs.Common.{◌≡◌, ◌+ℤ◌, ◌*◌, ◌^◌, ◌≤ℤ◌, pos, neg_ℤ, drop}
use Rattle.cert_checker.specs.Walk.{total_weight, walked}
use Rattle.cert_checker.proofs.walk.total_weight.Given as goal

abbrev pub invariant-loop-step : goal.invariant-loop-step
invariant-loop-step l =
    ((l.total +ℤ total_weight (walked l.lines (drop l.step-index l.walk))) ≡ total_weight (walked l.lines l.walk)) × (neg_ℤ (pos (2 ^ 63 * l.step-index)) ≤ℤ l.total) × (l.total ≤ℤ pos (2 ^ 63 * l.step-index))
