use Rattle.std.proofs.Common.{◌≡◌, ◌∙◌, ◌<◌, ℕ, Some, None, ◌∷◌, [], ◌++◌, length, refl, ap, sym, subst, arith}
use Rattle.std.specs.Prelude.{is_some}
use Rattle.std.specs.Vec.{vec_capacity}
use Rattle.std.proofs.lemmas.List.{get_or-set_same}
use Rattle.net_model.specs.Moments.{Moments, moment_of}
use Rattle.execution_model.specs.Execution.{has_come}
use Rattle.execution_model.specs.Feeds.{completed_at}
use Rattle.execution_model.proofs.MomentLemmas.{length-completed_at}
use Rattle.live_executor.specs.ExpectedPoints.{AreLatest, IsLatestOrKept}
use Rattle.live_executor.specs.ExecutionStates.{ExecutionSoFar}
use Rattle.live_executor.proofs.ExpectedLemmas.{latest_after}
use Rattle.live_executor.proofs.ArrivalLemmas.{comes}
use Rattle.live_executor.proofs.KeptLemmas.{inside_now, capacity_after, capacity_before, same_capacity, stands_inside}
use Rattle.live_executor.proofs.execution_state.ExecutionState.come.Goals as goal

pub come-requires-clause-awake : goal.come-requires-clause-awake
come-requires-clause-awake c = (stands_inside c.args.dispatched.now c.args.t _ _ c.self.view_is c.requires.stands).awake

pub come-requires-clause-new : goal.come-requires-clause-new
come-requires-clause-new c = ap (λ (state : ExecutionSoFar). moment_of state.moments c.args.point) c.self.view_is ∙ c.requires.may.is_new

pub come-requires-clause-point : goal.come-requires-clause-point
come-requires-clause-point c = omega (arith, c.requires.may.inside, c.requires.stands.count, c.requires.stands.awake.moments_count)

pub come-requires-clause-early : goal.come-requires-clause-early
come-requires-clause-early c = c.requires.may.soon

pub come-requires-2-clause-point : goal.come-requires-2-clause-point
come-requires-2-clause-point c = omega (arith, c.requires.may.inside, c.requires.stands.count, c.requires.stands.awake.moments_count)

pub come-requires-2-clause-moments : goal.come-requires-2-clause-moments
come-requires-2-clause-moments c = c.come.ensures.awake.moments_count

pub come-requires-2-clause-count : goal.come-requires-2-clause-count
come-requires-2-clause-count c = (stands_inside c.args.dispatched.now c.args.t _ _ c.self.view_is c.requires.stands).expected.count

pub come-requires-2-clause-come : goal.come-requires-2-clause-come
come-requires-2-clause-come c =
    let seen = stands_inside c.args.dispatched.now c.args.t _ _ c.self.view_is c.requires.stands in
    let before : Moments = c.self.inside.moments in
    let place : c.args.point.0 < length before = omega (arith, c.requires.may.inside, seen.count) in
    ap (λ (moments : Moments). has_come moments c.args.point) c.come.ensures.moments ∙ ap is_some (get_or-set_same before c.args.point.0 (Some c.args.t) None place)

pub push_reserved-requires : goal.push_reserved-requires
push_reserved-requires c =
    let kept = c.self.inside in
    let seen = stands_inside c.args.dispatched.now c.args.t _ _ c.self.view_is c.requires.stands in
    let before : Moments = kept.moments in
    let after : Moments = completed_at before c.args.t c.args.point in
    let place : c.args.point.0 < length before = omega (arith, c.requires.may.inside, seen.count) in
    let new : moment_of before c.args.point ≡ None = ap (λ (state : ExecutionSoFar). moment_of state.moments c.args.point) c.self.view_is ∙ c.requires.may.is_new in
    let spare_capacity = c.self.invariant.points_fit in
    subst (λ (n : ℕ). n < vec_capacity kept.came) (sym kept.came.ok.0)
    (capacity_before before after c.args.t c.args.point place new refl kept.came.items (vec_capacity kept.came) spare_capacity.few (omega (arith, length-completed_at before c.args.t c.args.point, spare_capacity.reserved)))

pub invariant_of-self : goal.invariant_of-self
invariant_of-self c =
    let kept = c.self.inside in
    let seen = stands_inside c.args.dispatched.now c.args.t _ _ c.self.view_is c.requires.stands in
    let before : Moments = kept.moments in
    let place : c.args.point.0 < length before = omega (arith, c.requires.may.inside, seen.count) in
    let new : moment_of before c.args.point ≡ None = ap (λ (state : ExecutionSoFar). moment_of state.moments c.args.point) c.self.view_is ∙ c.requires.may.is_new in
    let invariant = c.self.invariant in
    let now : Moments = c.come.new.moments in
    let moments_are = c.come.ensures.moments in
    let as_long : length now ≡ length before = ap (λ (moments : Moments). length moments) moments_are ∙ length-completed_at before c.args.t c.args.point in
    let awake = c.come.ensures.awake in
    let pushed = c.push_reserved.ensures.items in
    record {
      counted = omega (arith, awake.counts_count, awake.moments_count);
      acts_fit = same_capacity before now c.args.t c.args.point place new moments_are kept.acts.items (vec_capacity kept.acts) invariant.acts_fit;
      points_fit = capacity_after before now c.args.t c.args.point place new moments_are kept.came.items c.push_reserved.new.self.items c.args.point (vec_capacity c.push_reserved.new.self)
          invariant.points_fit.few (omega (arith, as_long, c.push_reserved.ensures.capacity, invariant.points_fit.reserved)) pushed;
      inside = inside_now before now c.args.t c.args.point place new moments_are kept.came.items c.push_reserved.new.self.items pushed invariant.inside;
    }

pub returns : goal.returns
returns c =
    let network = c.args.dispatched.now in
    let setting = network.setting in
    let t = c.args.t in
    let point = c.args.point in
    let old : ExecutionSoFar = c.args.self.now in
    let kept = c.self.inside in
    let before : Moments = kept.moments in
    let now : Moments = c.come.new.moments in
    let open_conditions = c.come.new.self in
    let latest : Moments = c.come-2.new.self.latest in
    let seen = stands_inside network t _ _ c.self.view_is c.requires.stands in
    let moved : now ≡ completed_at before t point = c.come.ensures.moments in
    let expected : AreLatest setting (completed_at before t point) latest = latest_after setting before t point kept.expected.latest latest seen.expected c.come-2.ensures.count
    (λ other. subst (λ (moments : Moments). IsLatestOrKept setting moments point kept.expected.latest latest other) moved (c.come-2.ensures.each other)) in
    comes network t point old c.requires.stands c.requires.may
    (record { moments = now; counts = open_conditions.counts.items; due = open_conditions.due; latest = latest; acts = kept.acts.items; came = c.push_reserved.new.self.items })
    (moved ∙ ap (λ (state : ExecutionSoFar). completed_at state.moments t point) c.self.view_is) c.come.ensures.awake
    (subst (λ (moments : Moments). AreLatest setting moments latest) (sym moved) expected)
    (ap (λ (state : ExecutionSoFar). state.acts) c.self.view_is) (c.push_reserved.ensures.items ∙ ap (λ (state : ExecutionSoFar). state.came ++ point ∷ []) c.self.view_is)
