use Rattle.network_closure.specs.Progress.{StaysAt}
use Rattle.network_closure.proofs.depth_first.DepthFirst.make_all.Given as goal

abbrev pub invariant-loop-point : goal.invariant-loop-point
invariant-loop-point g l = StaysAt l.fn.self l.self
