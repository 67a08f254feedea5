use Rattle.std.proofs.Common.{length, IfOk}
use Rattle.std.specs.List.{All}
use Rattle.cell_table.specs.SweepSeats.{IsAt}
use Rattle.cell_table.proofs.settlement.gather.Given as goal

abbrev pub invariant-loop-seat : goal.invariant-loop-seat
invariant-loop-seat l = All (λ seat. IfOk seat (IsAt l.net l.cells)) l.seats.items × IsAt l.net l.cells l.first

abbrev pub decreases-loop-seat : goal.decreases-loop-seat
decreases-loop-seat l = length l.seats.items
