use Rattle.std.proofs.Common.{◌≡◌, take}
use Rattle.back_propagation.proofs.made_edges.MadeEdges.to_vec.Given as goal

abbrev pub invariant-loop-place : goal.invariant-loop-place
invariant-loop-place l = l.made.items ≡ take l.place l.self
