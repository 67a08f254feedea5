-- The steps stand in the list.
use Rattle.std.proofs.Common.{List, subst}
use Rattle.std.specs.List.{Contains}
use Rattle.closure_model.specs.ReferenceRounds.{cycle_keys}
use Rattle.closure_model.specs.declared.derivation.NodeId.{NodeId}
use Rattle.example_references.proofs.LineFacts.{steps_inside}
use Rattle.example_references.proofs.refutation.refute.Goals as goal

pub lines_of-requires : goal.lines_of-requires
lines_of-requires c id inside = steps_inside c.args.nodes.now (cycle_keys c.args.cycle.now) c.in_ok-steps.steps.items c.in_ok-steps.ensures id (subst (λ (ids : List NodeId). Contains ids id) c.as_slice.ensures.value inside)
