-- The row that is pushed is that of the target.
use Rattle.parallel_rounds.proofs.WorkSteps.{row_pushed}
use Rattle.parallel_rounds.proofs.worker_rows.add_row.Goals as goal

pub returns : goal.returns
returns g c = row_pushed c.args.task.now.net.now c.args.task.now.table.now c.args.passed c.in_ok-row_of.field-0 c.args.rows.now.items c.push.new.self.items c.in_ok-row_of.ensures c.in_ok-push.ensures.items
