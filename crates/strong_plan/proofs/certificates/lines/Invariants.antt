use Rattle.std.proofs.Common.{◌≡◌, take}
use Rattle.strong_plan.specs.Answers.{lines_at}
use Rattle.strong_plan.proofs.certificates.lines.Given as goal

abbrev pub invariant-loop-place : goal.invariant-loop-place
invariant-loop-place l = l.lines.items ≡ lines_at l.net l.edges (take l.place-index l.places)
