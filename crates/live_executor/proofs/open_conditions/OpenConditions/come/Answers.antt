use Rattle.std.proofs.Common.{◌≡◌, ◌∙◌, ap, length, List, ℕ, sym, subst, None}
use Rattle.std.specs.Prelude.{slice_set}
use Rattle.net_model.specs.declared.ids.PointId.{PointId}
use Rattle.net_model.specs.Moments.{Moments}
use Rattle.execution_model.specs.Feeds.{completed_at}
use Rattle.live_executor.specs.WokenPoints.{AreWoken, IsAwake, IsFoundOrKept}
use Rattle.live_executor.proofs.WakeLemmas.{enough_counted, awake_after}
use Rattle.live_executor.proofs.open_conditions.OpenConditions.come.Goals as goal

pub lower-requires-clause-enough : goal.lower-requires-clause-enough
lower-requires-clause-enough c =
    enough_counted c.args.dispatched.now.setting c.args.moments.now c.args.self.now.counts.items c.args.self.now.due c.args.point c.fixes-fixes.result.now c.ends-ends.result.now c.args.moment c.requires.awake
    (record { fixed = c.fixes-fixes.ensures.fixed; ended = c.ends-ends.ensures.ended }) c.requires.new c.requires.point

pub returns-clause-awake : goal.returns-clause-awake
returns-clause-awake c =
    let setting = c.args.dispatched.now.setting in
    let now = c.args.moment in
    let point = c.args.point in
    let old = c.args.self.now in
    let fixes = c.fixes-fixes.result.now in
    let ends = c.ends-ends.result.now in
    let after = completed_at c.args.moments.now now point in
    let lowered = c.lower.new.self in
    let woken = c.wake_all.new.self in
    let last = c.wake_all-2.new.self in
    let wakes : AreWoken setting point fixes ends = record { fixed = c.fixes-fixes.ensures.fixed; ended = c.ends-ends.ensures.ended } in
    let first : (other : PointId) → IsFoundOrKept now setting after lowered.counts.items fixes (slice_set old.due point.0 None) woken.due other =
    λ other. subst (λ (moments : Moments). IsFoundOrKept now setting moments lowered.counts.items fixes (slice_set old.due point.0 None) woken.due other) c.set.ensures
    (subst (λ (due : Moments). IsFoundOrKept now setting c.set.new.self lowered.counts.items fixes due woken.due other) (c.lower.ensures.due ∙ c.set-2.ensures) (c.wake_all.ensures.each other)) in
    let second : (other : PointId) → IsFoundOrKept now setting after lowered.counts.items ends woken.due last.due other =
    λ other. subst (λ (moments : Moments). IsFoundOrKept now setting moments lowered.counts.items ends woken.due last.due other) c.set.ensures
    (subst (λ (counts : List ℕ). IsFoundOrKept now setting c.set.new.self counts ends woken.due last.due other) c.wake_all.ensures.counts (c.wake_all-2.ensures.each other)) in
    let same_counts : last.counts.items ≡ lowered.counts.items = c.wake_all-2.ensures.counts ∙ c.wake_all.ensures.counts in
    let long : length last.due ≡ length old.due =
    last.whole ∙ (ap (λ (counts : List ℕ). length counts) same_counts ∙ (c.lower.ensures.count ∙ sym old.whole)) in
    subst (λ (moments : Moments). IsAwake setting now moments last.counts.items last.due) (sym c.set.ensures)
    (subst (λ (counts : List ℕ). IsAwake setting now after counts last.due) (sym same_counts)
    (awake_after setting c.args.moments.now old.counts.items lowered.counts.items old.due woken.due last.due fixes ends point now
    (record {
      awake = c.requires.awake;
      wakes = wakes;
      new = c.requires.new;
      inside = c.requires.point;
      lower = c.lower.ensures.each;
      lowered_count = c.lower.ensures.count;
      first = first;
      second = second;
      last_count = long;
    })))
