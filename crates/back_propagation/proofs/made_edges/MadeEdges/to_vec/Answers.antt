-- One edge more.
use Rattle.std.proofs.Common.{◌∷◌, [], ◌++◌, List, ap, sym, ◌∙◌}
use Rattle.closure_model.specs.declared.rows.Made.{Made}
use Rattle.back_propagation.proofs.MadeSteps.{taken_more}
use Rattle.back_propagation.proofs.made_edges.MadeEdges.to_vec.Goals as goal

pub loop-place-preserved : goal.loop-place-preserved
loop-place-preserved c =
    c.in_ok-push.ensures.items ∙ (ap (λ (made : List Made). made ++ c.get.result ∷ []) c.loop-place.invariant ∙ sym (taken_more c.args.self.now c.loop-place.place c.get.result c.get.ensures))
