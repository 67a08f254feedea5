use Rattle.std.proofs.Common.{◌≡◌, ◌∙◌, ◌≤◌, ◌<◌, ◌+◌, ℕ, ap, append-nil, length, sym, subst, List}
use Rattle.std.specs.Vec.{vec_capacity}
use Rattle.execution_model.specs.declared.feed_answers.Act.{Act}
use Rattle.live_executor.specs.ExecutionStates.{ExecutionSoFar, HasCapacityLeft, Comes, points_left}
use Rattle.live_executor.proofs.ArrivalLemmas.{its_place, executes}
use Rattle.live_executor.proofs.KeptLemmas.{capacity_before, capacity_after}
use Rattle.live_executor.proofs.execution_state.ExecutionState.execute.Goals as goal

pub come-requires-clause-stands : goal.come-requires-clause-stands
come-requires-clause-stands c = c.requires.stands

pub come-requires-clause-may : goal.come-requires-clause-may
come-requires-clause-may c = c.requires.may

pub push_reserved-requires : goal.push_reserved-requires
push_reserved-requires c =
    let old : ExecutionSoFar = c.args.self.now in
    let now = c.self-2.inside in
    let moments_are = ap (λ (state : ExecutionSoFar). state.moments) c.self-2.view_is ∙ c.come.ensures.moments_are in
    let same : old.acts ≡ now.acts.items = sym (ap (λ (state : ExecutionSoFar). state.acts) c.self-2.view_is ∙ (c.come.ensures.acts_are ∙ append-nil old.acts)) in
    let few = subst (λ (state : ExecutionSoFar). length state.acts + points_left state.moments ≤ length state.moments) c.self.view_is c.self.invariant.acts_fit.few in
    let spare_capacity = subst (λ (acts : List Act). length acts + points_left old.moments ≤ length old.moments) same few in
    let place = its_place c.args.dispatched.now c.args.t c.args.point old c.requires.stands c.requires.may in
    subst (λ (n : ℕ). n < vec_capacity now.acts) (sym now.acts.ok.0)
    (capacity_before old.moments now.moments c.args.t c.args.point place c.requires.may.is_new moments_are now.acts.items (vec_capacity now.acts) spare_capacity c.self-2.invariant.acts_fit.reserved)

pub invariant_of-self : goal.invariant_of-self
invariant_of-self c =
    let old : ExecutionSoFar = c.args.self.now in
    let now = c.self-2.inside in
    let moments_are = ap (λ (state : ExecutionSoFar). state.moments) c.self-2.view_is ∙ c.come.ensures.moments_are in
    let same : old.acts ≡ now.acts.items = sym (ap (λ (state : ExecutionSoFar). state.acts) c.self-2.view_is ∙ (c.come.ensures.acts_are ∙ append-nil old.acts)) in
    let few = subst (λ (state : ExecutionSoFar). length state.acts + points_left state.moments ≤ length state.moments) c.self.view_is c.self.invariant.acts_fit.few in
    let spare_capacity = subst (λ (acts : List Act). length acts + points_left old.moments ≤ length old.moments) same few in
    let place = its_place c.args.dispatched.now c.args.t c.args.point old c.requires.stands c.requires.may in
    record {
      counted = c.self-2.invariant.counted;
      acts_fit = subst (λ (n : ℕ). HasCapacityLeft now.moments c.push_reserved.new.self.items n) (sym c.push_reserved.ensures.capacity)
          (capacity_after old.moments now.moments c.args.t c.args.point place c.requires.may.is_new moments_are now.acts.items c.push_reserved.new.self.items (record { moment = c.args.t; point = c.args.point })
          (vec_capacity now.acts) spare_capacity c.self-2.invariant.acts_fit.reserved c.push_reserved.ensures.items);
      points_fit = c.self-2.invariant.points_fit;
      inside = c.self-2.invariant.inside;
    }

pub returns : goal.returns
returns c =
    let network = c.args.dispatched.now in
    let old : ExecutionSoFar = c.args.self.now in
    let kept = c.self-2.inside in
    let now : ExecutionSoFar = record {
      moments = kept.moments;
      counts = kept.open_conditions.counts.items;
      due = kept.open_conditions.due;
      latest = kept.expected.latest;
      acts = kept.acts.items;
      came = kept.came.items;
    } in
    executes network c.args.t c.args.point old now c.push_reserved.new.self.items
    (subst (λ (state : ExecutionSoFar). Comes network c.args.t c.args.point old state) (sym c.self-2.view_is) c.come.ensures) c.push_reserved.ensures.items
