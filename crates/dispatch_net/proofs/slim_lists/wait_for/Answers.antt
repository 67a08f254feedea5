use Rattle.std.proofs.Common.{◌<◌, ℤ, pos, length, ltb, get_or, rules, ap, sym, ◌∙◌, arith, w64}
use Rattle.std.proofs.Math.Facts.{to_z-of_z}
use Rattle.std.proofs.Common.{SFits}
use Rattle.std.proofs.lemmas.List.{get_or_default}
use Rattle.std.proofs.lemmas.List.Sorted.{IsPartitionPoint-from_clause, IsPartitionedBy-ltb}
use Rattle.net_model.specs.declared.ids.LinkId.{LinkId}
use Rattle.dispatch_net.proofs.PlaceLemmas.{are_non_decreasing, one_there, none_there}
use Rattle.dispatch_net.proofs.slim_lists.wait_for.Goals as goal

pub returns-then-place-waits : goal.returns-then-place-waits
returns-then-place-waits c = λ test.
    let number : LinkId × ℤ → _ = λ wait. wait.0.0 in
    let rises = c.requires in
    let point = IsPartitionPoint-from_clause (λ (wait : LinkId × ℤ). ltb wait.0.0 c.args.link.0) _ _ c.partition_point-place.ensures.partitioned
    (IsPartitionedBy-ltb number c.args.waits.now c.args.link.0 (are_non_decreasing number c.args.waits.now rises)) (λ a r q k. search rules) in
    none_there number c.args.waits.now rises c.args.link.0 (λ wait. test wait.1) c.partition_point-place.result point (λ d inside. absurd (omega (arith, inside, c.if-place-waits.true)))

pub returns-else-other-link : goal.returns-else-other-link
returns-else-other-link c = λ test.
    let number : LinkId × ℤ → _ = λ wait. wait.0.0 in
    let rises = c.requires in
    let none : LinkId × ℤ = (record { 0 = 0 }, pos 0) in
    let point = IsPartitionPoint-from_clause (λ (wait : LinkId × ℤ). ltb wait.0.0 c.args.link.0) _ _ c.partition_point-place.ensures.partitioned
    (IsPartitionedBy-ltb number c.args.waits.now c.args.link.0 (are_non_decreasing number c.args.waits.now rises)) (λ a r q k. search rules) in
    none_there number c.args.waits.now rises c.args.link.0 (λ wait. test wait.1) c.partition_point-place.result point
    (λ d inside same. c.if-other-link.false (ap number (get_or_default c.args.waits.now c.partition_point-place.result none d inside) ∙ same))

pub returns-then-other-link : goal.returns-then-other-link
returns-then-other-link c = λ test.
    let none : LinkId × ℤ = (record { 0 = 0 }, pos 0) in
    let upto = c.partition_point-place.ensures.bound in
    let inside : c.partition_point-place.result < length c.args.waits.now = omega (arith, upto, c.if-place-waits.false) in
    let fits : SFits w64 (get_or c.args.waits.now c.partition_point-place.result none).1 = search rules in
    one_there (λ (wait : LinkId × ℤ). wait.0.0) c.args.waits.now c.requires c.args.link.0 (λ wait. test wait.1) c.partition_point-place.result none inside c.if-other-link.true
    ∙ ap test (sym (to_z-of_z fits))
