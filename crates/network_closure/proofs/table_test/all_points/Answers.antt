use Rattle.std.proofs.Common.{ℕ, ◌++◌, ◌∷◌, [], ◌∙◌, sym, arith}
use Rattle.std.proofs.lemmas.List.FromFn.{map-range_with_len_more}
use Rattle.net_model.specs.declared.ids.PointId.{PointId}
use Rattle.network_closure.proofs.table_test.all_points.Goals as goal

pub loop-point-preserved : goal.loop-point-preserved
loop-point-preserved c =
    let point : ℕ → PointId = λ k. record { 0 = k } in
    c.in_ok-push.ensures.items ∙ (λ i. c.loop-point.invariant i ++ point c.loop-point.point ∷ []) ∙ sym (map-range_with_len_more point 0 c.loop-point.point c.loop-point.point (omega arith))
