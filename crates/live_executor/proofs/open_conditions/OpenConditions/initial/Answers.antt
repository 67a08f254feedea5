use Rattle.std.proofs.Common.{◌∙◌, ℕ, List, Option, length, ap, arith, refl}
use Rattle.std.specs.Prelude.{slice_index}
use Rattle.std.proofs.lemmas.List.{length-set}
use Rattle.net_model.specs.declared.ids.PointId.{PointId}
use Rattle.dispatch_net.specs.Dispatchable.{conditions_at}
use Rattle.execution_model.specs.Execution.{is_due}
use Rattle.live_executor.specs.Due.{PassesFrom}
use Rattle.live_executor.specs.WokenPoints.{condition_count}
use Rattle.live_executor.proofs.WakeLemmas.{awake_first, found_counts, found_due}
use Rattle.live_executor.proofs.open_conditions.OpenConditions.initial.Goals as goal

pub loop-point-preserved : goal.loop-point-preserved
loop-point-preserved c =
    let i = c.loop-point.invariant in
    let before = c.loop-point.open_conditions in
    let now = c.find.new.self in
    let n = c.loop-point.point in
    let setting = c.args.dispatched.now.setting in
    let wanted : PointId → ℕ = λ (point : PointId). condition_count (conditions_at setting.dispatch point) in
    let passes : PointId → Option ℕ → Type 0 = λ (point : PointId) (o : Option ℕ). PassesFrom (λ t. is_due setting c.args.moments.now t point) o in
    record {
      count = ap (λ (xs : List ℕ). length xs) c.find.ensures.counts ∙ (length-set before.counts.items n (wanted (record { 0 = n })) ∙ i.count);
      counted = λ point below. ap (λ (xs : List ℕ). slice_index xs point.0) c.find.ensures.counts
          ∙ found_counts before.counts.items before.due now.due n (wanted (record { 0 = n })) wanted passes (omega (arith, i.count)) refl i.counted point below;
      found = found_due before.counts.items before.due now.due n (wanted (record { 0 = n })) wanted passes c.find.ensures.due c.find.ensures.found i.found;
    }

pub returns : goal.returns
returns c =
    let i = c.loop-point.invariant in
    awake_first c.args.dispatched.now.setting c.args.moments.now c.requires c.loop-point.open_conditions.counts.items c.loop-point.open_conditions.due i.count c.loop-point.open_conditions.whole
    (λ point inside. i.counted point (omega (arith, inside))) (λ point inside. i.found point (omega (arith, inside)))
