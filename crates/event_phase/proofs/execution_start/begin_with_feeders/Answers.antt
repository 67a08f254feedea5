use Rattle.std.proofs.Common.{◌∙◌}
use Rattle.forward_executor.proofs.ForwardExecutorLemmas.{made_slim}
use Rattle.event_phase.proofs.ExecutionStartLemmas.{begins_so}
use Rattle.event_phase.specs.CompletionOrders.{completion_order_where}
use Rattle.event_phase.proofs.execution_start.begin_with_feeders.Goals as goal

pub start-requires-clause-dispatch : goal.start-requires-clause-dispatch
start-requires-clause-dispatch c =
    let is = c.requires.dispatch in
    record { table = is.table; order = is.order; dispatched = is.dispatched; links = c.slim.ensures.links ∙ is.links; made = c.slim.ensures.made ∙ is.made }

pub start-requires-clause-slim : goal.start-requires-clause-slim
start-requires-clause-slim c = made_slim c.law_slim_stays_slim.ensures c.args.dispatch c.slim.result c.slim.ensures.links c.slim.ensures.kept

pub returns-clause-begins : goal.returns-clause-begins
returns-clause-begins c =
    let is = c.requires.dispatch in
    let net = c.args.net in
    let controllable = c.law_ordered_forward_tables_are_controllable.ensures net is.table is.order is.dispatched in
    begins_so (completion_order_where c.args.feeders) net (c.law_controllable_have_canonical_closures.ensures net is.dispatched.instant controllable)
    c.in_ok-state.state c.in_ok-state.ensures c.put_start.new.answer.text c.in_ok-put_start.ensures.put
