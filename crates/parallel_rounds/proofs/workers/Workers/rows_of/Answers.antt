-- The rows are those of what was drawn, each number once, and in order.
use Rattle.std.proofs.Common.{length, ap, arith}
use Rattle.work_board.specs.declared.view.Size.{Size}
use Rattle.parallel_rounds.proofs.InOrder.{can_make, rows_in_order}
use Rattle.parallel_rounds.proofs.RisingPoints.{rising_short}
use Rattle.parallel_rounds.proofs.workers.Workers.rows_of.Goals as goal

pub overflow_cast-task : goal.overflow_cast-task
overflow_cast-task g c = omega (arith, rising_short (length c.args.task.now.net.now.points) c.args.task.now.targets.now c.requires.rise c.requires.points, c.sound.ensures.few_points)

pub make_rows-requires-clause-can : goal.make_rows-requires-clause-can
make_rows-requires-clause-can g c κs within =
    can_make c.args.task.now.net.now c.args.task.now.table.now c.args.task.now.targets.now c.in_ok-board.board c.requires.fits c.requires.within c.requires.points (ap (λ (s : Size). s.targets) c.in_ok-board.ensures.0)

pub returns : goal.returns
returns g c =
    rows_in_order c.args.task.now.net.now c.args.task.now.table.now c.args.task.now.targets.now c.in_ok-board.board.size.targets c.close.result c.in_ok-seat.field-0.seat.view.held c.in_ok-seat.field-0.rows.items
    c.put_in_order.new.rows.items c.requires.rise (ap (λ (s : Size). s.targets) c.in_ok-board.ensures.0) c.in_ok-seat.ensures.rows
    c.close.ensures.once c.close.ensures.drawn c.put_in_order.ensures.same c.put_in_order.ensures.order
