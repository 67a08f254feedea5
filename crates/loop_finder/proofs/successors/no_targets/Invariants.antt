use Rattle.std.proofs.Common.{◌≡◌, [], replicate}
use Rattle.loop_finder.proofs.successors.no_targets.Given as goal

abbrev pub invariant-loop-point : goal.invariant-loop-point
invariant-loop-point l = l.lists.items ≡ replicate l._point []
