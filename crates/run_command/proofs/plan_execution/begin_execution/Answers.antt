use Rattle.run_command.proofs.plan_execution.begin_execution.Goals as goal

pub begin-requires : goal.begin-requires
begin-requires c =
    let by = c.in_ok-dispatch.ensures in
    record { dispatch = record { table = c.args.closed.now.table; order = c.args.closed.now.order; dispatched = c.requires.closure; links = by.links; made = by.made } }
