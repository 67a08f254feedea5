use Rattle.std.proofs.Common.{◌≡◌, length}
use Rattle.sensor_desk.specs.Follower.{AreFindingsSoFar}
use Rattle.sensor_desk.specs.Desks.{IsSeatOfDesk}
use Rattle.sensor_desk.proofs.desk.Desk.look_at_all.Given as goal

abbrev pub invariant-loop-number : goal.invariant-loop-number
invariant-loop-number l = record {
  findings : AreFindingsSoFar l.net l.executor.moments l.moment l.number l.fn.seat l.seat l.room l.findings.late l.findings.count;
  seat : IsSeatOfDesk l.self l.seat;
  room : length l.room ≡ length l.fn.room;
}
