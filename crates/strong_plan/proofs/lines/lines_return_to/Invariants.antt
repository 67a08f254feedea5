use Rattle.std.proofs.Common.{◌≡◌, ◌+◌, ◌≤◌, drop}
use Rattle.strong_plan.specs.Judgement.{lines_return_to}
use Rattle.strong_plan.proofs.lines.lines_return_to.Given as goal

abbrev pub invariant-loop-next : goal.invariant-loop-next
invariant-loop-next l =
    (l.place ≤ 1 + l.next-index) × (lines_return_to l.first.from l.place l.last (drop l.next-index l.rest) ≡ lines_return_to l.first.from 1 l.first l.rest)
