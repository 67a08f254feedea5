use Rattle.std.proofs.Common.{◌≡◌, ◌+◌, length, drop}
use Rattle.cert_checker.specs.Walk.{steps_known}
use Rattle.cert_checker.proofs.walk.steps_known.Given as goal

abbrev pub invariant-loop-index : goal.invariant-loop-index
invariant-loop-index l =
    steps_known l.lines (length l.lines + 1 + l.index) (drop l.index l.walk) ≡ steps_known l.lines (length l.lines + 1) l.walk
