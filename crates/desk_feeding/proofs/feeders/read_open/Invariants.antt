use Rattle.std.proofs.Common.{◌≡◌}
use Rattle.std.specs.Vec.{vec_capacity}
use Rattle.sensor_desk.specs.Desks.{IsSeatOfDesk}
use Rattle.desk_feeding.specs.Feedings.{HasReadOpen}
use Rattle.desk_feeding.proofs.feeders.read_open.Given as goal

abbrev pub invariant-loop-number : goal.invariant-loop-number
invariant-loop-number l = record {
  reads : HasReadOpen l.net l.executor.moments l.moment l.fn.seat l.number l.seat;
  seat : IsSeatOfDesk l.desk l.seat;
  spare_capacity : vec_capacity l.read ≡ vec_capacity l.fn.read;
}
