use Rattle.std.proofs.Common.{◌≡◌, ◌+◌, ◌<◌, ◌∙◌, None, ap, sym, subst, length, arith}
use Rattle.std.specs.List.{All}
use Rattle.net_model.specs.declared.ids.PointId.{PointId}
use Rattle.execution_model.specs.Feeds.{Execution, next_moment}
use Rattle.live_executor.specs.ExecutionStates.{ExecutionSoFar}
use Rattle.live_executor.specs.Kept.{ExecutionGoesOn, moment_after}
use Rattle.live_executor.proofs.LastLemmas.{goes_on_with}
use Rattle.live_executor.proofs.MomentLemmas.{may_be_fed}
use Rattle.live_executor.proofs.executor.Executor.take.Goals as goal

pub try_feed-tried-requires-clause-goes_on : goal.try_feed-tried-requires-clause-goes_on
try_feed-tried-requires-clause-goes_on c =
    let kept = c.self.inside in
    let going : kept.refused ≡ None = ap (λ (e : Execution). e.refused) c.self.view_is ∙ c.requires.going in
    let first : c.next_moment-from.result ≡ moment_after kept.last = c.next_moment-from.ensures ∙ ap (λ (e : Execution). next_moment e) (sym c.self.view_is) in
    subst (λ from. ExecutionGoesOn kept.dispatched from kept.state) (sym first) (c.self.invariant.goes_on going)

pub try_feed-tried-requires-clause-listed : goal.try_feed-tried-requires-clause-listed
try_feed-tried-requires-clause-listed c = record {
  inside = subst (λ (e : Execution). All (λ (point : PointId). point.0 < length e.setting.dispatch) c.args.completions.now) (sym c.self.view_is) c.requires.listed;
  within = (may_be_fed c.args.self.now c.args.moment (sym c.refusal_of_moment.ensures ∙ c.in_default.is)).1;
}

pub try_feed-tried-requires-clause-range : goal.try_feed-tried-requires-clause-range
try_feed-tried-requires-clause-range c =
    let may = may_be_fed c.args.self.now c.args.moment (sym c.refusal_of_moment.ensures ∙ c.in_default.is) in
    let low = may.0 in
    omega (arith, c.next_moment-from.ensures, low)

pub invariant_of-self-in-Ok : goal.invariant_of-self-in-Ok
invariant_of-self-in-Ok c =
    let network = c.self.inside.dispatched in
    let after = c.try_feed-tried.new.self in
    let goes = c.in-Ok.ensures.goes_on in
    record {
      count = ap (λ (state : ExecutionSoFar). length state.moments) c.swap_acts.ensures.state ∙ goes.stands.count;
      few = (let few = c.swap_acts.ensures.spare_capacity.few in omega (arith, few));
      reserved = c.swap_acts.ensures.spare_capacity.reserved;
      soon = (let left = goes.time_left in omega (arith, left));
      goes_on = λ still. rw c.swap_acts.ensures.state (goes_on_with network (c.args.moment + 1) after goes);
    }
