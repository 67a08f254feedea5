use Rattle.std.proofs.Common.{◌≡◌, length}
use Rattle.sensor_desk.specs.Desks.{IsSeatOfDesk}
use Rattle.sensor_desk.specs.Follower.{IsExecutionFor}
use Rattle.example_desk.proofs.days.take_steps.Given as goal

abbrev pub invariant-loop-line : goal.invariant-loop-line
invariant-loop-line l = record {
  seat : IsSeatOfDesk l.desk l.seat;
  executor : IsExecutionFor l.net l.executor;
  room : length l.room.items ≡ length l.net.links;
}
