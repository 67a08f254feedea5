use Rattle.std.proofs.Common.{◌≡◌, false, take}
use Rattle.std.specs.List.{list_any}
use Rattle.closure_model.specs.declared.derivation.NodeId.{NodeId}
use Rattle.example_references.specs.LinesFrom.{is_premise}
use Rattle.example_references.proofs.refutation.has_premise.Given as goal

abbrev pub invariant-loop-line : goal.invariant-loop-line
invariant-loop-line l = list_any (λ (line : NodeId). is_premise l.nodes line l.id) (take l.line-index l.lines) ≡ false
