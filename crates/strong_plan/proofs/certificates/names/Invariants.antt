use Rattle.std.proofs.Common.{◌≡◌, take}
use Rattle.strong_plan.specs.Answers.{names_at}
use Rattle.strong_plan.proofs.certificates.names.Given as goal

abbrev pub invariant-loop-place : goal.invariant-loop-place
invariant-loop-place l = l.names.items ≡ names_at l.net l.edges (take l.place-index l.places)
