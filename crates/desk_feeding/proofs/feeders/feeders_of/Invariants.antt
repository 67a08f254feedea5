use Rattle.std.proofs.Common.{◌≡◌, ◌+◌, vec_len}
use Rattle.std.specs.List.{All}
use Rattle.sensor_desk.specs.Desks.{IsSeatOfDesk}
use Rattle.sensor_desk.specs.declared.feeder.Feeder.{Feeder}
use Rattle.desk_feeding.proofs.feeders.feeders_of.Given as goal

abbrev pub invariant-loop-seat : goal.invariant-loop-seat
invariant-loop-seat l = record {
  seats : All (λ (feeder : Feeder). IsSeatOfDesk l.desk feeder.seat) l.feeders.items;
  seat : IsSeatOfDesk l.desk l.seat;
  count : vec_len l.feeders + l.seat.view.to_split ≡ l.fn.seat.view.to_split;
}

abbrev pub decreases-loop-seat : goal.decreases-loop-seat
decreases-loop-seat l = l.seat.view.to_split
