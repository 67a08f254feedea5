use Rattle.std.proofs.Common.{◌≡◌, ◌∙◌, None, ap, sym, subst, length, arith}
use Rattle.execution_model.specs.Feeds.{Execution, next_moment, last_of}
use Rattle.live_executor.specs.ExecutionStates.{ExecutionSoFar, RunsOut, without_acts}
use Rattle.live_executor.specs.Kept.{ExecutionGoesOn, moment_after}
use Rattle.live_executor.proofs.LastLemmas.{goes_at_end}
use Rattle.live_executor.proofs.executor.Executor.run_out.Goals as goal

pub run_out-requires-clause-goes_on : goal.run_out-requires-clause-goes_on
run_out-requires-clause-goes_on c =
    let kept = c.self.inside in
    let going : kept.refused ≡ None = ap (λ (e : Execution). e.refused) c.self.view_is ∙ c.requires.going in
    let first : c.next_moment-from.result ≡ moment_after kept.last = c.next_moment-from.ensures ∙ ap (λ (e : Execution). next_moment e) (sym c.self.view_is) in
    subst (λ from. ExecutionGoesOn kept.dispatched from kept.state) (sym first) (c.self.invariant.goes_on going)

pub invariant_of-self : goal.invariant_of-self
invariant_of-self c =
    let kept = c.self.inside in
    let going : kept.refused ≡ None = ap (λ (e : Execution). e.refused) c.self.view_is ∙ c.requires.going in
    let network = kept.dispatched in
    let after = c.run_out.new.self in
    let first : c.next_moment-from.result ≡ moment_after kept.last = c.next_moment-from.ensures ∙ ap (λ (e : Execution). next_moment e) (sym c.self.view_is) in
    let out = subst (λ from. RunsOut network from kept.state after) first c.run_out.ensures in
    let ends : ExecutionGoesOn network (moment_after (last_of kept.last after.acts)) (without_acts after) = goes_at_end network kept.state after kept.last (c.self.invariant.goes_on going) out in
    record {
      count = ap (λ (state : ExecutionSoFar). length state.moments) c.swap_acts.ensures.state ∙ out.runs.stands.count;
      few = (let few = c.swap_acts.ensures.spare_capacity.few in omega (arith, few));
      reserved = c.swap_acts.ensures.spare_capacity.reserved;
      soon = rw c.last_act-self-inside.ensures (let left = ends.time_left in omega (arith, left));
      goes_on = λ still. rw (c.swap_acts.ensures.state, c.last_act-self-inside.ensures) ends;
    }
