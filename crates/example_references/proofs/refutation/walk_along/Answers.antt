use Rattle.std.proofs.Common.{ℕ, List, ◌++◌, ◌∷◌, [], map, take, ap, sym, ◌∙◌}
use Rattle.closure_model.specs.ReferenceRounds.{line_of}
use Rattle.example_references.proofs.LineFacts.{images_more}
use Rattle.example_references.proofs.refutation.walk_along.Goals as goal

pub loop-step-preserved : goal.loop-step-preserved
loop-step-preserved c =
    c.in_ok-push.ensures.items ∙ (ap (λ (walk : List ℕ). walk ++ c.line_of.result ∷ []) c.loop-step.invariant
    ∙ (ap (λ (number : ℕ). map (line_of c.args.lines.now) (take c.loop-step.step-index c.args.steps.now) ++ number ∷ []) c.line_of.ensures
    ∙ sym (images_more (line_of c.args.lines.now) c.args.steps.now c.loop-step.step-index _ c.loop-step-test.true)))
