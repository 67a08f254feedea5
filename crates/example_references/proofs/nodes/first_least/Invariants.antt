use Rattle.std.proofs.Common.{take}
use Rattle.closure_model.specs.ReferenceRound.{weight_for}
use Rattle.closure_model.proofs.FirstLeast.{FirstIs}
use Rattle.example_references.proofs.nodes.first_least.Given as goal

abbrev pub invariant-loop-place : goal.invariant-loop-place
invariant-loop-place l = FirstIs (weight_for l.edge) (take l.place l.nodes) l.first
