use Rattle.std.proofs.Common.{◌∙◌}
use Rattle.forward_executor.proofs.ForwardExecutorLemmas.{made_slim}
use Rattle.play_command.proofs.PlayLemmas.{started_by}
use Rattle.play_command.proofs.plan_day.played.Goals as goal

pub start_slim-requires-clause-dispatch : goal.start_slim-requires-clause-dispatch
start_slim-requires-clause-dispatch c =
    let is = c.requires.dispatch in
    record { table = is.table; order = is.order; dispatched = is.dispatched; links = c.slim.ensures.links ∙ is.links; made = c.slim.ensures.made ∙ is.made }

pub start_slim-requires-clause-slim : goal.start_slim-requires-clause-slim
start_slim-requires-clause-slim c = made_slim c.law_slim_stays_slim.ensures c.args.dispatch c.slim.result c.slim.ensures.links c.slim.ensures.kept

pub play_out-requires-clause-started : goal.play_out-requires-clause-started
play_out-requires-clause-started c =
    started_by c.args.net.now c.args.dispatch c.slim.result.made c.in_ok-executor.executor c.requires.dispatch c.slim.ensures.made c.in_ok-executor.ensures
