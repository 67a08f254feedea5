use Rattle.forward_executor.proofs.ForwardExecutorLemmas.{made_slim}
use Rattle.plan_fleet.proofs.PlanLemmas.{forward_dispatch}
use Rattle.plan_fleet.proofs.fleet_start.start.Goals as goal

pub start-requires-clause-slim : goal.start-requires-clause-slim
start-requires-clause-slim c = made_slim c.law_slim_stays_slim.ensures c.in_ok-dispatch.dispatch c.slim.result c.slim.ensures.links c.slim.ensures.kept

pub start-requires-clause-dispatch : goal.start-requires-clause-dispatch
start-requires-clause-dispatch c = forward_dispatch c.args.net.now c.args.closed.now c.in_ok-dispatch.dispatch c.slim.result c.requires c.in_ok-dispatch.ensures c.slim.ensures.links c.slim.ensures.made
