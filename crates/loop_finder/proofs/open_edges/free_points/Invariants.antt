use Rattle.loop_finder.proofs.PlacementLemmas.{AreDueBelow}
use Rattle.loop_finder.proofs.open_edges.free_points.Given as goal

abbrev pub invariant-loop-number : goal.invariant-loop-number
invariant-loop-number l = AreDueBelow l.left l.number l.free
