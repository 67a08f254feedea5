use Rattle.std.proofs.Common.{rules, ◌≡◌, ◌+◌, arith, List, ℕ, take, sym, ap, ◌∙◌, subst, Ok, Err}
use Rattle.std.proofs.lemmas.List.{take_all}
use Rattle.net_model.specs.declared.ids.PointId.{PointId}
use Rattle.cert_checker.specs.TableRefusals.{ReadsEach}
use Rattle.cert_checker.specs.Tables.{point_passes}
use Rattle.cert_checker.proofs.TestOutcomeLemmas.{fault_at, says_next}
use Rattle.cert_checker.proofs.entries.read_points.Goals as goal

pub returns-in-Err : goal.returns-in-Err
returns-in-Err c =
    let refused : point_passes c.args.net.now c.index-order-index.result ≡ Err c.in-Err.why = search rules in
    record {
      place = c.loop-index.index;
      number = omega arith;
      fault = fault_at (point_passes c.args.net.now) c.args.order.now c.loop-index.points.items c.loop-index.index c.index-order-index.result c.in-Err.why c.loop-index-test.true
          (ap (point_passes c.args.net.now) (sym c.index-order-index.is) ∙ refused) c.loop-index.invariant;
    }

pub loop-index-preserved : goal.loop-index-preserved
loop-index-preserved c =
    let reading = point_passes c.args.net.now in
    let said : point_passes c.args.net.now c.index-order-index.result ≡ Ok c.in-Ok.point = search rules in
    let next = says_next reading c.args.order.now c.loop-index.points.items c.loop-index.index c.index-order-index.result c.in-Ok.point c.loop-index-test.true (ap reading (sym c.index-order-index.is) ∙ said) c.loop-index.invariant in
    subst (λ (points : List PointId). ReadsEach reading (take (c.loop-index.index + 1) c.args.order.now) points) (sym c.in_ok-push-in-Ok.ensures.items) next

pub returns : goal.returns
returns c = subst (λ (order : List (List ℕ)). ReadsEach (point_passes c.args.net.now) order c.loop-index.points.items) (take_all c.loop-index.index c.args.order.now c.loop-index-test.false) c.loop-index.invariant
