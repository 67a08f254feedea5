use Rattle.std.proofs.Common.{◌≡◌, ◌<◌, ◌∙◌, ℕ, get_or, length, arith}
use Rattle.std.specs.Prelude.{slice_index}
use Rattle.std.proofs.lemmas.List.{get_or_default}
use Rattle.net_model.specs.declared.ids.PointId.{PointId}
use Rattle.live_executor.proofs.WakeLemmas.{enough_to_lower}
use Rattle.live_executor.proofs.open_conditions.OpenConditions.lower.Goals as goal

pub overflow_sub-index_mut : goal.overflow_sub-index_mut
overflow_sub-index_mut c =
    let i = c.loop-waiter.invariant in
    let d : PointId = record { 0 = 0 } in
    let counts = c.loop-waiter.self.counts.items in
    let k : ℕ = (get_or c.args.waiters.now c.loop-waiter.waiter-index d).0 in
    let within = c.requires.inside c.loop-waiter.waiter-index d c.loop-waiter-test.true in
    let inside : k < length counts = omega (arith, within, i.count) in
    let is : c.index_mut.result.now ≡ slice_index counts k = c.index_mut.ensures.value ∙ get_or_default counts k c.index_mut.result.now 0 inside in
    let low = enough_to_lower c.args.self.now.counts.items counts c.args.self.now.counts.items c.args.waiters.now c.loop-waiter.waiter-index (omega arith) d c.requires.enough i.each in
    omega (arith, low, is)
