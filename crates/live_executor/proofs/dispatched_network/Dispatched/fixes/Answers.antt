use Rattle.std.proofs.Common.{◌<◌, ◌∙◌, List, length, ap, sym, subst, arith}
use Rattle.std.specs.List.{All}
use Rattle.net_model.specs.declared.ids.PointId.{PointId}
use Rattle.live_executor.specs.Sound.{KeptNetwork}
use Rattle.live_executor.specs.WokenPoints.{AreFixedBy}
use Rattle.live_executor.specs.Wakes.{list_at}
use Rattle.live_executor.proofs.dispatched_network.Dispatched.fixes.Goals as goal

pub fixes-requires : goal.fixes-requires
fixes-requires c =
    let kept = c.self.inside in
    let inside : c.args.point.0 < length kept.dispatch.kept = subst (λ (n : KeptNetwork). c.args.point.0 < length n.setting.dispatch) (sym c.self.view_is) c.requires in
    omega (arith, inside, c.self.invariant.kept.count, c.self.invariant.wakes_are.fixes_count)

pub returns : goal.returns
returns c =
    let kept = c.self.inside in
    let are = c.self.invariant.wakes_are in
    let inside : c.args.point.0 < length kept.dispatch.kept = subst (λ (n : KeptNetwork). c.args.point.0 < length n.setting.dispatch) (sym c.self.view_is) c.requires in
    let within : c.args.point.0 < kept.points = omega (arith, inside, c.self.invariant.kept.count) in
    let below = are.fixes_inside c.args.point in
    let named = subst (λ n. All (λ (other : PointId). other.0 < n) (list_at kept.wakes.fixes c.args.point)) c.self.invariant.kept.count below in
    record {
      list = c.fixes.ensures ∙ ap (λ (n : KeptNetwork). list_at n.wakes.fixes c.args.point) c.self.view_is;
      fixed = subst (λ (n : KeptNetwork). AreFixedBy n.setting c.args.point c.fixes.result.now) c.self.view_is
          (subst (λ (ps : List PointId). AreFixedBy (record { links = kept.dispatch.links; dispatch = kept.dispatch.kept }) c.args.point ps) (sym c.fixes.ensures) (are.fixed c.args.point within));
      inside = subst (λ (n : KeptNetwork). All (λ (other : PointId). other.0 < length n.setting.dispatch) c.fixes.result.now) c.self.view_is
          (subst (λ (ps : List PointId). All (λ (other : PointId). other.0 < length kept.dispatch.kept) ps) (sym c.fixes.ensures) named);
    }
