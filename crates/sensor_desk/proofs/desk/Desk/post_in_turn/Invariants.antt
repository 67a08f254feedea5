use Rattle.std.proofs.Common.{length, ◌-◌}
use Rattle.sensor_desk.specs.Desks.{IsSeatOfDesk}
use Rattle.sensor_desk.specs.Feeders.{IsInTurn}
use Rattle.sensor_desk.proofs.desk.Desk.post_in_turn.Given as goal

abbrev pub invariant-loop-place : goal.invariant-loop-place
invariant-loop-place g l = record {
  turn : IsInTurn l.links l.moment l.fn.first l.fn.step l.fn.feeder l.place l.feeder;
  seat : IsSeatOfDesk l.self l.feeder.seat;
}

abbrev pub decreases-loop-place : goal.decreases-loop-place
decreases-loop-place g l = length l.links - l.place
