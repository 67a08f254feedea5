use Rattle.std.proofs.Common.{◌<◌, ◌≤◌, List, length, sym, subst, arith}
use Rattle.std.specs.List.{All}
use Rattle.net_model.specs.declared.ids.PointId.{PointId}
use Rattle.live_executor.specs.ExpectedPoints.{AreActivatedBy}
use Rattle.live_executor.specs.Sound.{KeptNetwork}
use Rattle.live_executor.specs.WokenPoints.{times}
use Rattle.live_executor.specs.Wakes.{list_at}
use Rattle.live_executor.proofs.dispatched_network.Dispatched.activated.Goals as goal

pub of-requires : goal.of-requires
of-requires c =
    let kept = c.self.inside in
    let inside : c.args.point.0 < length kept.dispatch.kept = subst (λ (n : KeptNetwork). c.args.point.0 < length n.setting.dispatch) (sym c.self.view_is) c.requires in
    omega (arith, inside, c.self.invariant.kept.count, c.self.invariant.activated_are.count)

pub returns : goal.returns
returns c =
    let kept = c.self.inside in
    let are = c.self.invariant.activated_are in
    let named = subst (λ n. All (λ (other : PointId). other.0 < n) (list_at kept.activated c.args.point)) c.self.invariant.kept.count (are.inside c.args.point) in
    let here : AreActivatedBy kept.dispatch.links c.args.point (list_at kept.activated c.args.point) =
    (λ link among from. subst (λ k. 1 ≤ times (list_at kept.activated (record { 0 = k })) link.to) from (are.activated link among)) in
    record {
      activated = subst (λ (n : KeptNetwork). AreActivatedBy n.setting.links c.args.point c.of.result.now) c.self.view_is
          (subst (AreActivatedBy kept.dispatch.links c.args.point) (sym c.of.ensures) here);
      inside = subst (λ (n : KeptNetwork). All (λ (other : PointId). other.0 < length n.setting.dispatch) c.of.result.now) c.self.view_is
          (subst (λ (ps : List PointId). All (λ (other : PointId). other.0 < length kept.dispatch.kept) ps) (sym c.of.ensures) named);
    }
