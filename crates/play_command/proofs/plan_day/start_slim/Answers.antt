use Rattle.live_executor.proofs.OfClosureLemmas.{dispatch_of}
use Rattle.play_command.proofs.plan_day.start_slim.Goals as goal

pub start-requires : goal.start-requires
start-requires c =
    let is = c.requires.dispatch in
    dispatch_of c.args.net.now is.table is.order is.dispatched c.args.dispatch is.links is.made
