use Rattle.std.proofs.Common.{not, ap, sym, arith}
use Rattle.closure_model.specs.Orders.{contains_point}
use Rattle.closure_model.proofs.OrderLemmas.{found_at, found_nowhere}
use Rattle.net_model.specs.declared.ids.PointId.{PointId}
use Rattle.loop_finder.proofs.placement.lowest_unplaced.Goals as goal

pub returns-then-not-has : goal.returns-then-not-has
returns-then-not-has c = sym (found_at (λ (p : PointId). not (contains_point c.args.placed.now.order.items p)) c.args.points c.loop-left.left c.loop-left-test.true (ap not (sym c.if-not-has.ensures))
    (λ j less. ap not (c.loop-left.invariant j less)))

pub returns : goal.returns
returns c = sym (found_nowhere (λ (p : PointId). not (contains_point c.args.placed.now.order.items p)) c.args.points (λ j less. ap not (c.loop-left.invariant j (omega arith))))
