use Rattle.std.proofs.Common.{◌≡◌, ◌∙◌, ◌<◌, List, length, sym, subst, arith}
use Rattle.std.specs.List.{All}
use Rattle.std.specs.Vec.{vec_capacity}
use Rattle.std.proofs.lemmas.List.Elements.{All-nil}
use Rattle.net_model.specs.declared.ids.PointId.{PointId}
use Rattle.net_model.specs.Moments.{Moments}
use Rattle.live_executor.specs.ExecutionStates.{ExecutionSoFar}
use Rattle.live_executor.specs.Trace.{HaveComeSince}
use Rattle.live_executor.proofs.KeptLemmas.{capacity_for_all}
use Rattle.live_executor.proofs.execution_state.ExecutionState.take_back.Goals as goal

pub take_back-requires : goal.take_back-requires
take_back-requires c = record {
  inside = subst (λ (came : List PointId). All (λ (point : PointId). point.0 < length c.self.inside.moments) came) (sym c.as_slice.ensures.value) c.self.invariant.inside;
}

pub invariant_of-self : goal.invariant_of-self
invariant_of-self c =
    let now : Moments = c.take_back.new.moments in
    let as_long : length c.self.inside.moments ≡ length now = sym c.take_back.ensures.count in
    let invariant = c.self.invariant in
    record {
      counted = invariant.counted ∙ as_long;
      acts_fit = capacity_for_all now c.clear.new.self.items (vec_capacity c.clear.new.self) c.clear.ensures.items (omega (arith, as_long, c.clear.ensures.capacity, invariant.acts_fit.reserved));
      points_fit = capacity_for_all now c.clear-2.new.self.items (vec_capacity c.clear-2.new.self) c.clear-2.ensures.items (omega (arith, as_long, c.clear-2.ensures.capacity, invariant.points_fit.reserved));
      inside = subst (λ (came : List PointId). All (λ (point : PointId). point.0 < length now) came) (sym c.clear-2.ensures.items) (All-nil (λ (point : PointId). point.0 < length now));
    }

pub returns : goal.returns
returns c = λ before since.
    let kept = c.self.inside in
    let seen : HaveComeSince before kept.came.items kept.moments = subst (λ (state : ExecutionSoFar). HaveComeSince before state.came state.moments) (sym c.self.view_is) since in
    c.take_back.ensures.before before (subst (λ (came : List PointId). HaveComeSince before came kept.moments) (sym c.as_slice.ensures.value) seen)
