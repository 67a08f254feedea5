-- Each turn draws one more number, and adds the row of its target.
use Rattle.std.proofs.Common.{◌≡◌, ◌<◌, ◌++◌, [], ◌∷◌, length, subst}
use Rattle.std.proofs.lemmas.Result.{err_from_is_err_and}
use Rattle.net_model.specs.declared.ids.PointId.{PointId}
use Rattle.parallel_rounds.specs.Rows.{new_row}
use Rattle.parallel_rounds.proofs.WorkSteps.{drawn_below, works_on, leaves_off, draw_rises, work_decreases}
use Rattle.parallel_rounds.proofs.worker_rows.draw_rows.Goals as goal

pub loop-number-smaller : goal.loop-number-smaller
loop-number-smaller g c =
    let rises = draw_rises c.loop-number.seat c.draw.new.seat c.in-Some.number c.in-Some.ensures in
    let below : c.in-Some.number < length c.args.task.now.targets.now = drawn_below c.args.task.now.net.now c.args.task.now.table.now c.args.task.now.targets.now c.args.board.now c.args.seat.now c.loop-number.seat
    c.draw.new.seat c.loop-number.rows.items c.in-Some.number c.requires.seat c.requires.can.sized c.loop-number.invariant c.in-Some.ensures in
    work_decreases (length c.args.task.now.targets.now) _ c.in-Some.number _ rises.0 rises.1 below

pub loop-number-preserved : goal.loop-number-preserved
loop-number-preserved g c =
    let below : c.in-Some.number < length c.args.task.now.targets.now = drawn_below c.args.task.now.net.now c.args.task.now.table.now c.args.task.now.targets.now c.args.board.now c.args.seat.now c.loop-number.seat
    c.draw.new.seat c.loop-number.rows.items c.in-Some.number c.requires.seat c.requires.can.sized c.loop-number.invariant c.in-Some.ensures in
    works_on c.args.task.now.net.now c.args.task.now.table.now c.args.task.now.targets.now c.args.seat.now c.loop-number.seat c.draw.new.seat c.loop-number.rows.items c.add_row.new.rows.items c.in-Some.number
    (record { 0 = 0 }) c.loop-number.invariant c.in-Some.ensures below
    (subst (λ (t : PointId). c.add_row.new.rows.items ≡ c.loop-number.rows.items ++ new_row c.args.task.now.net.now c.args.task.now.table.now t ∷ []) c.through-passed.ensures c.in_ok-add_row.ensures)

pub returns-in_err-add_row : goal.returns-in_err-add_row
returns-in_err-add_row g c =
    let p = err_from_is_err_and c.from_residual.result c.from_residual.ensures.1 in
    rw (p.1) (leaves_off c.args.task.now.net.now c.args.task.now.table.now c.args.task.now.targets.now c.args.seat.now c.loop-number.seat c.draw.new.seat c.loop-number.rows.items c.in-Some.number
    c.loop-number.invariant c.in-Some.ensures)
