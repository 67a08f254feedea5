use Rattle.std.proofs.Common.{◌++◌, ◌∷◌, [], List, ap, sym, ◌∙◌}
use Rattle.net_model.specs.declared.ids.PointId.{PointId}
use Rattle.example_executions.proofs.ListFacts.{points_more}
use Rattle.example_executions.proofs.lists.points.Goals as goal

pub loop-point-preserved : goal.loop-point-preserved
loop-point-preserved c =
    c.in_ok-push.ensures.items ∙ (ap (λ (points : List PointId). points ++ record { 0 = c.loop-point.point } ∷ []) c.loop-point.invariant ∙ sym (points_more c.loop-point.point))
