use Rattle.std.proofs.Common.{◌≡◌, map, take}
use Rattle.closure_model.specs.ReferenceRounds.{line_of}
use Rattle.example_references.proofs.refutation.walk_along.Given as goal

abbrev pub invariant-loop-step : goal.invariant-loop-step
invariant-loop-step l = l.walk.items ≡ map (line_of l.lines) (take l.step-index l.steps)
