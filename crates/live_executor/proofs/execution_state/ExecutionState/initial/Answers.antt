use Rattle.std.proofs.Common.{◌≡◌, ◌∙◌, ◌<◌, ◌≤◌, None, Option, ℕ, length, replicate, ap, sym, subst, arith}
use Rattle.std.specs.List.{All}
use Rattle.std.specs.Vec.{vec_capacity}
use Rattle.std.proofs.lemmas.List.{length-replicate}
use Rattle.std.proofs.lemmas.List.Elements.{All-nil}
use Rattle.net_model.specs.declared.ids.PointId.{PointId}
use Rattle.net_model.specs.Moments.{Moments}
use Rattle.live_executor.specs.ExpectedPoints.{AreLatest}
use Rattle.live_executor.proofs.ExecutorLemmas.{none_stands}
use Rattle.live_executor.proofs.KeptLemmas.{capacity_for_all}
use Rattle.live_executor.proofs.execution_state.ExecutionState.initial.Goals as goal

pub initial-requires : goal.initial-requires
initial-requires c =
    let no_moment : Option ℕ = None in
    c.in_ok-moments.ensures ∙ ap (λ (n : ℕ). replicate n no_moment) c.points-points.ensures.count

pub invariant_of-result : goal.invariant_of-result
invariant_of-result c =
    let no_moment : Option ℕ = None in
    let moments : Moments = c.in_ok-moments.moments in
    let acts = c.in_ok-acts.acts in
    let came = c.in_ok-came.came in
    let many : moments ≡ replicate c.points-points.result no_moment = c.in_ok-moments.ensures in
    let long : length moments ≡ c.points-points.result = ap (λ (m : Moments). length m) many ∙ length-replicate c.points-points.result no_moment in
    let awake = c.in_ok-open_conditions.ensures in
    let acts_fit : length moments ≤ vec_capacity acts = (let places = c.in_ok-acts.ensures.capacity in omega (arith, places, long)) in
    let points_fit : length moments ≤ vec_capacity came = (let places = c.in_ok-came.ensures.capacity in omega (arith, places, long)) in
    let inside : PointId → Type 0 = λ (point : PointId). point.0 < length moments in
    record {
      counted = omega (arith, awake.counts_count, awake.moments_count);
      acts_fit = capacity_for_all moments acts.items (vec_capacity acts) c.in_ok-acts.ensures.items acts_fit;
      points_fit = capacity_for_all moments came.items (vec_capacity came) c.in_ok-came.ensures.items points_fit;
      inside = subst (All inside) (sym c.in_ok-came.ensures.items) (All-nil inside);
    }

pub returns-clause-moments : goal.returns-clause-moments
returns-clause-moments c =
    let no_moment : Option ℕ = None in
    c.in_ok-moments.ensures ∙ ap (λ (n : ℕ). replicate n no_moment) c.points-points.ensures.made

pub returns-clause-stands : goal.returns-clause-stands
returns-clause-stands c =
    let network = c.args.dispatched.now in
    let setting = network.setting in
    let no_moment : Option ℕ = None in
    let count = c.points-points.ensures.count in
    let none : c.in_ok-moments.moments ≡ replicate (length setting.dispatch) no_moment = c.in_ok-moments.ensures ∙ ap (λ (n : ℕ). replicate n no_moment) count in
    none_stands network c.executes_the_same.ensures c.points-points.ensures.sound (sym count ∙ c.points-points.ensures.made) _ none
    c.in_ok-open_conditions.ensures
    (subst (λ (moments : Moments). AreLatest setting moments c.in_ok-expected.expected.latest) (sym none) c.in_ok-expected.ensures)
