use Rattle.std.proofs.Common.{◌≡◌, ◌+ℤ◌, ◌*◌, ◌^◌, ◌≤ℤ◌, pos, neg_ℤ, drop}
use Rattle.strong_plan.specs.Judgement.{total_of}
use Rattle.strong_plan.proofs.lines.total_of.Given as goal

abbrev pub invariant-loop-line : goal.invariant-loop-line
invariant-loop-line l =
    ((l.total +ℤ total_of (drop l.line-index l.lines)) ≡ total_of l.lines) × (neg_ℤ (pos (2 ^ 63 * l.line-index)) ≤ℤ l.total) × (l.total ≤ℤ pos (2 ^ 63 * l.line-index))
