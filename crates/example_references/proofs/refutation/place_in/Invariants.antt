use Rattle.std.proofs.Common.{◌≡◌, ℕ, ◌<◌, ◌==◌, false, get_or}
use Rattle.closure_model.specs.declared.derivation.NodeId.{NodeId}
use Rattle.example_references.proofs.refutation.place_in.Given as goal

abbrev pub invariant-loop-place : goal.invariant-loop-place
invariant-loop-place l = (k : ℕ) (d : NodeId) → k < l.place → (get_or l.lines k d).0 == l.id.0 ≡ false
