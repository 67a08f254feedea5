use Rattle.closure_model.specs.Derivations.{StandsOn}
use Rattle.example_references.proofs.edit_comparison.try_edits.Given as goal

abbrev pub invariant-loop-number : goal.invariant-loop-number
invariant-loop-number g l = StandsOn l.standing.net l.standing.store
