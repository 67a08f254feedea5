use Rattle.std.proofs.Common.{◌<◌, ◌∙◌, List, length, ap, sym, subst, arith}
use Rattle.std.specs.List.{All}
use Rattle.net_model.specs.declared.ids.PointId.{PointId}
use Rattle.live_executor.specs.Sound.{KeptNetwork}
use Rattle.live_executor.specs.WokenPoints.{AreEndedBy}
use Rattle.live_executor.specs.Wakes.{list_at}
use Rattle.live_executor.proofs.WakesLemmas.{woken}
use Rattle.live_executor.proofs.dispatched_network.Dispatched.ends.Goals as goal

pub ends-requires : goal.ends-requires
ends-requires c =
    let kept = c.self.inside in
    let inside : c.args.point.0 < length kept.dispatch.kept = subst (λ (n : KeptNetwork). c.args.point.0 < length n.setting.dispatch) (sym c.self.view_is) c.requires in
    omega (arith, inside, c.self.invariant.kept.count, c.self.invariant.wakes_are.ends_count)

pub returns : goal.returns
returns c =
    let kept = c.self.inside in
    let are = c.self.invariant.wakes_are in
    let inside : c.args.point.0 < length kept.dispatch.kept = subst (λ (n : KeptNetwork). c.args.point.0 < length n.setting.dispatch) (sym c.self.view_is) c.requires in
    let within : c.args.point.0 < kept.points = omega (arith, inside, c.self.invariant.kept.count) in
    let below = are.ends_inside c.args.point in
    let named = subst (λ n. All (λ (other : PointId). other.0 < n) (list_at kept.wakes.ends c.args.point)) c.self.invariant.kept.count below in
    record {
      list = c.ends.ensures ∙ ap (λ (n : KeptNetwork). list_at n.wakes.ends c.args.point) c.self.view_is;
      ended = subst (λ (n : KeptNetwork). AreEndedBy n.setting c.args.point c.ends.result.now) c.self.view_is
          (subst (λ (ps : List PointId). AreEndedBy (record { links = kept.dispatch.links; dispatch = kept.dispatch.kept }) c.args.point ps) (sym c.ends.ensures)
          ((woken (record { links = kept.dispatch.links; dispatch = kept.dispatch.kept }) kept.points kept.wakes are c.args.point within).ended));
      inside = subst (λ (n : KeptNetwork). All (λ (other : PointId). other.0 < length n.setting.dispatch) c.ends.result.now) c.self.view_is
          (subst (λ (ps : List PointId). All (λ (other : PointId). other.0 < length kept.dispatch.kept) ps) (sym c.ends.ensures) named);
    }
