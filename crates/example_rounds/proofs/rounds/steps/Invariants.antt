use Rattle.std.proofs.Common.{◌<◌, length}
use Rattle.std.specs.List.{All}
use Rattle.closure_model.specs.declared.derivation.NodeId.{NodeId}
use Rattle.example_rounds.proofs.rounds.steps.Given as goal

abbrev pub invariant-loop-place : goal.invariant-loop-place
invariant-loop-place l = All (λ (id : NodeId). id.0 < length l.store.nodes) l.ids.items
