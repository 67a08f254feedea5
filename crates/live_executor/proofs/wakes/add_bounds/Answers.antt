use Rattle.std.proofs.Common.{◌∙◌, ℤ, pos, List, length, ap, arith, sym, get_or, refl}
use Rattle.net_model.specs.declared.ids.PointId.{PointId}
use Rattle.live_executor.specs.Wakes.{added_to_list, bound_place}
use Rattle.live_executor.proofs.WakesLemmas.{length-added_to_list, gathered_more}
use Rattle.live_executor.proofs.wakes.add_bounds.Goals as goal

pub add-requires : goal.add-requires
add-requires c =
    let d : PointId × ℤ = (record { 0 = 0 }, pos 0) in
    let low = (c.requires c.loop-after.after-index d c.loop-after-test.true).within in
    omega (arith, low, c.loop-after.invariant.count)

pub loop-after-preserved : goal.loop-after-preserved
loop-after-preserved c =
    let d : PointId × ℤ = (record { 0 = 0 }, pos 0) in
    let i = c.loop-after.after-index in
    let at = (get_or c.args.bounds.now i d).0 in
    record {
      gathered = c.in_ok-add.ensures ∙ (ap (λ (ls : List (List PointId)). added_to_list ls at c.args.point) c.loop-after.invariant.gathered
          ∙ sym (gathered_more bound_place c.args.point c.args.lists.now c.args.bounds.now i d at c.loop-after-test.true refl));
      count = ap (λ (ls : List (List PointId)). length ls) c.in_ok-add.ensures ∙ (length-added_to_list c.loop-after.lists at c.args.point ∙ c.loop-after.invariant.count);
    }
