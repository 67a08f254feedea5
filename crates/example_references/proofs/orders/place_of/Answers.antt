use Rattle.std.proofs.Common.{◌==◌, length, sym, arith}
use Rattle.std.proofs.lemmas.List.Sums.{position_or_len_is}
use Rattle.net_model.specs.declared.ids.PointId.{PointId}
use Rattle.example_references.proofs.orders.place_of.Goals as goal

pub returns-then-eq-clause-place : goal.returns-then-eq-clause-place
returns-then-eq-clause-place c = sym (position_or_len_is (λ (other : PointId). other.0 == c.args.point.0) c.args.order.now c.loop-place.place (record { 0 = 0 }) (omega arith) (λ k less. c.loop-place.invariant k (record { 0 = 0 }) less)
    (λ inside. sym c.if-eq.ensures))

pub returns-clause-place : goal.returns-clause-place
returns-clause-place c = sym (position_or_len_is (λ (other : PointId). other.0 == c.args.point.0) c.args.order.now (length c.args.order.now) c.args.point (omega arith) (λ k less. c.loop-place.invariant k c.args.point (omega arith))
    (λ inside. absurd (omega arith)))
