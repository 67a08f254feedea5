use Rattle.earliest_times.proofs.TraceLemmas.{Traced}
use Rattle.earliest_times.proofs.trace.trace.Given as goal

abbrev pub invariant-loop-left : goal.invariant-loop-left
invariant-loop-left l = Traced l.edges l.points l.levels l.fn.start l.walk.items l.point l.left

abbrev pub decreases-loop-left : goal.decreases-loop-left
decreases-loop-left l = l.left
