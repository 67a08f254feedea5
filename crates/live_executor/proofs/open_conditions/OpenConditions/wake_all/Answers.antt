use Rattle.std.proofs.Common.{◌≡◌, ◌≢◌, ◌<◌, ◌∙◌, sym, ap, subst, arith, length, take, get_or, ◌+◌, ℕ, List}
use Rattle.std.specs.Prelude.{slice_index}
use Rattle.std.proofs.lemmas.List.{get_or_default}
use Rattle.net_model.specs.declared.ids.PointId.{PointId}
use Rattle.net_model.specs.Moments.{Moments, moment_of}
use Rattle.live_executor.specs.WokenPoints.{IsFoundOrKept}
use Rattle.live_executor.proofs.WakeLemmas.{left_more, found_more}
use Rattle.live_executor.proofs.open_conditions.OpenConditions.wake_all.Goals as goal
use Rattle.live_executor.proofs.open_conditions.OpenConditions.wake_all.Goals.{then-index-eq0, else-index-eq0}

pub loop-waiter-preserved : goal.loop-waiter-preserved
loop-waiter-preserved c =
    let i = c.loop-waiter.invariant in
    let d : PointId = record { 0 = 0 } in
    let within = c.requires.inside c.loop-waiter.waiter-index d c.loop-waiter-test.true in
    let old = c.args.self.now.due in
    let counts = c.args.self.now.counts.items in
    let setting = c.args.dispatched.now.setting in
    let before = c.loop-waiter.self in
    let more = take (c.loop-waiter.waiter-index + 1) c.args.waiters.now in
    let k : ℕ = (get_or c.args.waiters.now c.loop-waiter.waiter-index d).0 in
    let long : length before.counts.items ≡ length setting.dispatch = ap (λ (cs : List ℕ). length cs) i.counts ∙ c.requires.counts in
    let inside : k < length before.counts.items = omega (arith, within, long) in
    let is : c.index.result.now ≡ slice_index before.counts.items k = c.index.ensures ∙ get_or_default before.counts.items k c.index.result.now 0 inside in
    elim c.if-index-eq0.branch [
      | then-index-eq0 w ↦ (
          let e = w.wake.ensures in
          let due_long : length before.due ≡ length setting.dispatch = before.whole ∙ long in
          record {
            each = λ point.
                subst (λ (now : Moments). IsFoundOrKept c.args.now setting c.args.moments.now counts more old now point)
                (sym (ap (λ s. s.due) w.self-is ∙ e.due))
                (found_more c.args.now setting c.args.moments.now counts c.args.waiters.now old before.due c.loop-waiter.waiter-index c.loop-waiter-test.true d
                (moment_of w.wake.new.self.due (get_or c.args.waiters.now c.loop-waiter.waiter-index d)) (omega (arith, within, due_long)) e.found point (i.each point));
            counts = ap (λ s. s.counts.items) w.self-is ∙ (e.counts ∙ i.counts);
          })
      | else-index-eq0 w ↦ (
          let some : slice_index counts (get_or c.args.waiters.now c.loop-waiter.waiter-index d).0 ≢ 0 =
          (λ none. w.if-index-eq0.false (is ∙ (ap (λ (cs : List ℕ). slice_index cs k) i.counts ∙ none))) in
          record {
            each = λ point.
                subst (λ (now : Moments). IsFoundOrKept c.args.now setting c.args.moments.now counts more old now point)
                (sym (ap (λ s. s.due) w.self-is))
                (left_more c.args.now setting c.args.moments.now counts c.args.waiters.now old before.due c.loop-waiter.waiter-index c.loop-waiter-test.true d
                some point (i.each point));
            counts = ap (λ s. s.counts.items) w.self-is ∙ i.counts;
          })
    ]
