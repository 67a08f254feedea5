use Rattle.std.proofs.Common.{◌-◌, length}
use Rattle.parallel_rounds.proofs.WorkSteps.{IsWorking, next_number}
use Rattle.parallel_rounds.proofs.worker_rows.draw_rows.Given as goal

abbrev pub invariant-loop-number : goal.invariant-loop-number
invariant-loop-number g l = IsWorking l.task.net.now l.task.table.now l.task.targets.now l.fn.seat l.seat l.rows.items

abbrev pub decreases-loop-number : goal.decreases-loop-number
decreases-loop-number g l = length l.task.targets.now - next_number l.seat.view.held
