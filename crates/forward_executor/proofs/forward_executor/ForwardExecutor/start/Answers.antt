use Rattle.std.proofs.Common.{List, length, ap, sym, subst, ◌∙◌}
use Rattle.net_model.specs.Network.{Plan}
use Rattle.live_executor.proofs.OfClosureLemmas.{dispatch_of}
use Rattle.forward_executor.specs.ForwardExecutions.{by_closure, closure_lists, IsForwardExecution}
use Rattle.execution_model.specs.Feeds.{started}
use Rattle.dispatch_net.specs.declared.dispatch.Conditions.{Conditions}
use Rattle.forward_executor.proofs.ForwardExecutorLemmas.{closure_length, starts_alike, starts_forward}
use Rattle.forward_executor.proofs.forward_executor.ForwardExecutor.start.Goals as goal

pub start-requires : goal.start-requires
start-requires c =
    let is = c.requires.dispatch in
    dispatch_of c.args.net.now is.table is.order is.dispatched c.args.dispatch is.links is.made

pub invariant_of-result : goal.invariant_of-result
invariant_of-result c =
    let is = c.requires.dispatch in
    subst (λ (net : Plan). IsForwardExecution net c.in_ok-executor.executor) (sym c.of.ensures)
    (starts_forward c.law_ordered_forward_tables_are_controllable.ensures c.law_controllable_have_canonical_closures.ensures c.args.net.now is.table is.order is.dispatched c.args.dispatch.made c.in_ok-executor.executor is.made
    c.in_ok-executor.ensures)

pub returns-clause-started : goal.returns-clause-started
returns-clause-started c =
    let is = c.requires.dispatch in
    let net = c.args.net.now in
    ap (λ (n : Plan). by_closure n c.in_ok-executor.executor) c.of.ensures
    ∙ (ap (by_closure net) (c.in_ok-executor.ensures ∙ ap (λ (d : List Conditions). started (record { links = net.links; dispatch = d })) is.made)
    ∙ starts_alike c.law_ordered_forward_tables_are_controllable.ensures c.law_controllable_have_canonical_closures.ensures net is.table is.order is.dispatched)

pub returns-clause-size : goal.returns-clause-size
returns-clause-size c =
    let is = c.requires.dispatch in
    ap (λ (net : Plan). length (closure_lists net)) c.of.ensures
    ∙ closure_length c.law_ordered_forward_tables_are_controllable.ensures c.law_controllable_have_canonical_closures.ensures c.args.net.now is.table is.order is.dispatched
