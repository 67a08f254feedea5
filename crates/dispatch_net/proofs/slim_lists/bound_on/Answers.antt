use Rattle.std.proofs.Common.{◌<◌, ℤ, pos, length, ltb, get_or, rules, ap, sym, ◌∙◌, arith, w64}
use Rattle.std.proofs.Math.Facts.{to_z-of_z}
use Rattle.std.proofs.Common.{SFits}
use Rattle.std.proofs.lemmas.List.{get_or_default}
use Rattle.std.proofs.lemmas.List.Sorted.{IsPartitionPoint-from_clause, IsPartitionedBy-ltb}
use Rattle.net_model.specs.declared.ids.PointId.{PointId}
use Rattle.dispatch_net.proofs.PlaceLemmas.{are_non_decreasing, one_there, none_there}
use Rattle.dispatch_net.proofs.slim_lists.bound_on.Goals as goal

pub returns-then-place-bounds : goal.returns-then-place-bounds
returns-then-place-bounds c = λ test.
    let number : PointId × ℤ → _ = λ bound. bound.0.0 in
    let rises = c.requires in
    let point = IsPartitionPoint-from_clause (λ (bound : PointId × ℤ). ltb bound.0.0 c.args.point.0) _ _ c.partition_point-place.ensures.partitioned
    (IsPartitionedBy-ltb number c.args.bounds.now c.args.point.0 (are_non_decreasing number c.args.bounds.now rises)) (λ a r q k. search rules) in
    none_there number c.args.bounds.now rises c.args.point.0 (λ bound. test bound.1) c.partition_point-place.result point (λ d inside. absurd (omega (arith, inside, c.if-place-bounds.true)))

pub returns-else-other-point : goal.returns-else-other-point
returns-else-other-point c = λ test.
    let number : PointId × ℤ → _ = λ bound. bound.0.0 in
    let rises = c.requires in
    let none : PointId × ℤ = (record { 0 = 0 }, pos 0) in
    let point = IsPartitionPoint-from_clause (λ (bound : PointId × ℤ). ltb bound.0.0 c.args.point.0) _ _ c.partition_point-place.ensures.partitioned
    (IsPartitionedBy-ltb number c.args.bounds.now c.args.point.0 (are_non_decreasing number c.args.bounds.now rises)) (λ a r q k. search rules) in
    none_there number c.args.bounds.now rises c.args.point.0 (λ bound. test bound.1) c.partition_point-place.result point
    (λ d inside same. c.if-other-point.false (ap number (get_or_default c.args.bounds.now c.partition_point-place.result none d inside) ∙ same))

pub returns-then-other-point : goal.returns-then-other-point
returns-then-other-point c = λ test.
    let none : PointId × ℤ = (record { 0 = 0 }, pos 0) in
    let upto = c.partition_point-place.ensures.bound in
    let inside : c.partition_point-place.result < length c.args.bounds.now = omega (arith, upto, c.if-place-bounds.false) in
    let fits : SFits w64 (get_or c.args.bounds.now c.partition_point-place.result none).1 = search rules in
    one_there (λ (bound : PointId × ℤ). bound.0.0) c.args.bounds.now c.requires c.args.point.0 (λ bound. test bound.1) c.partition_point-place.result none inside c.if-other-point.true
    ∙ ap test (sym (to_z-of_z fits))
