use Rattle.std.proofs.Common.{◌∙◌, Vec, Global, ap, refl}
use Rattle.std.specs.Vec.{vec_capacity}
use Rattle.net_model.specs.declared.ids.PointId.{PointId}
use Rattle.desk_feeding.specs.Feedings.{none}
use Rattle.desk_feeding.proofs.FedLemmas.{one_more}
use Rattle.desk_feeding.proofs.feeders.read_open.Goals as goal
use Rattle.desk_feeding.proofs.feeders.read_open.Goals.{then-stands_at+then-len-capacity, else-stands_at}

pub loop-number-init : goal.loop-number-init
loop-number-init c = record { reads = none c.args.seat.now refl; seat = c.requires.seat; spare_capacity = c.clear.ensures.capacity }

pub loop-number-preserved : goal.loop-number-preserved
loop-number-preserved c =
    let before = c.loop-number.invariant in
    let here = c.stands_at.ensures in
    record {
      reads = one_more c.args.net.now c.args.executor.now.moments c.args.moment c.args.seat.now c.loop-number.number c.loop-number.seat c.stands_at.new.seat c.stands_at.result before.reads here.reads;
      seat = here.seat;
      spare_capacity = elim c.if-stands_at.branch [
        | then-stands_at+then-len-capacity w ↦
            ap (λ (v : Vec PointId Global). vec_capacity v) w.read-is ∙ (w.push_reserved.ensures.capacity ∙ before.spare_capacity)
        | else-stands_at w ↦ ap (λ (v : Vec PointId Global). vec_capacity v) w.read-is ∙ before.spare_capacity
      ];
    }
