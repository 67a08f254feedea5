use Rattle.network_closure.specs.Progress.{StaysAt}
use Rattle.network_closure.proofs.depth_first.DepthFirst.make.Given as goal

abbrev pub invariant-loop-row : goal.invariant-loop-row
invariant-loop-row g l = StaysAt l.fn.self l.self

abbrev pub decreases-loop-row : goal.decreases-loop-row
decreases-loop-row g l = l.self.left
