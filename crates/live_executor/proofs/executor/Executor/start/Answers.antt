use Rattle.std.proofs.Common.{length, ap, arith}
use Rattle.live_executor.specs.Sound.{made_setting}
use Rattle.live_executor.proofs.ExecutorLemmas.{none_before, starts}
use Rattle.live_executor.proofs.KeptLemmas.{left_at_most}
use Rattle.live_executor.proofs.executor.Executor.start.Goals as goal

pub invariant_of-result : goal.invariant_of-result
invariant_of-result c =
    let network = c.in_ok-dispatched.dispatched in
    let state = c.in_ok-state.state in
    let stands = c.in_ok-state.ensures.stands in
    let no_acts = ap (λ xs. length xs) c.in_ok-acts.ensures.items in
    record {
      count = stands.count;
      few = omega (arith, no_acts);
      reserved = (let places = c.in_ok-acts.ensures.capacity in omega (arith, places, c.points.ensures.made, stands.count));
      soon = omega arith;
      goes_on = λ going. record {
        stands = stands;
        before = none_before 0 (length network.made) state.moments c.in_ok-state.ensures.moments;
        time_left = (let few = stands.few in omega (arith, few, left_at_most state.moments));
      };
    }

pub returns : goal.returns
returns c =
    starts (made_setting c.in_ok-dispatched.dispatched) (record { links = c.args.net.now.links; dispatch = c.args.dispatch.made }) c.in_ok-state.state.moments c.in_ok-acts.acts.items
    c.in_ok-dispatched.ensures c.in_ok-state.ensures.moments c.in_ok-acts.ensures.items
