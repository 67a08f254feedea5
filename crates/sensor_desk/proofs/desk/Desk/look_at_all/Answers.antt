use Rattle.std.proofs.Common.{◌∙◌, arith}
use Rattle.sensor_desk.proofs.FollowerLemmas.{findings_more, capacity_for, sees_seat}
use Rattle.sensor_desk.proofs.OpenLemmas.{point_at}
use Rattle.sensor_desk.proofs.desk.Desk.look_at_all.Goals as goal

pub take_in-findings-requires : goal.take_in-findings-requires
take_in-findings-requires c = record {
  room = λ now_at.
      let less =
      capacity_for c.args.net.now c.args.executor.now.moments c.args.moment c.args.seat.now c.loop-number.number c.loop-number.seat c.look_at-found.new.seat c.points.ensures.sound c.loop-number.room
      c.loop-number.findings.late c.loop-number.findings.count c.loop-number.invariant.findings c.look_at-found.result c.look_at-found.ensures now_at in
      let room = c.requires.room in
      let same = c.loop-number.invariant.room in
      omega (arith, less, room, same);
}

pub loop-number-preserved : goal.loop-number-preserved
loop-number-preserved c =
    let taken = c.take_in-findings.ensures in record {
      findings =
          findings_more c.args.net.now c.args.executor.now.moments c.args.moment c.args.seat.now c.loop-number.number c.loop-number.seat c.look_at-found.new.seat c.loop-number.room c.take_in-findings.new.room
          c.loop-number.findings.late c.take_in-findings.result.late c.loop-number.findings.count c.take_in-findings.result.count c.loop-number.invariant.findings c.look_at-found.result c.look_at-found.ensures
          taken.late taken.listed taken.count;
      seat =
          sees_seat c.args.self.now c.args.net.now c.args.executor.now.moments (point_at c.loop-number.number) c.loop-number.seat c.look_at-found.new.seat c.look_at-found.result c.loop-number.invariant.seat
          c.look_at-found.ensures;
      room = taken.length ∙ c.loop-number.invariant.room;
    }
