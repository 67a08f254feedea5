use Rattle.std.proofs.Common.{ap, subst}
use Rattle.net_model.specs.Network.{Plan}
use Rattle.verdicts.specs.Decisions.{IsDecidedBy, IsOrderedForwardTable}
use Rattle.session_command.proofs.DecidedLemmas.{forward_dispatch, none_says, table_says}
use Rattle.session_command.proofs.decided_network.dispatch_if_controllable.Goals as goal

pub forward_table_if_controllable-requires-clause-no_delay : goal.forward_table_if_controllable-requires-clause-no_delay
forward_table_if_controllable-requires-clause-no_delay g c = λ lifetimes lives. ap (λ (net : Plan). net.delay) c.in_ok-shown.ensures

pub dispatch_by-requires : goal.dispatch_by-requires
dispatch_by-requires g c = (subst (IsDecidedBy IsOrderedForwardTable c.in_ok-shown.shown) c.in-Some.is c.in_ok-closed.ensures).1

pub returns-in_ok-dispatch-in-Some : goal.returns-in_ok-dispatch-in-Some
returns-in_ok-dispatch-in-Some g c =
    let shown = c.in_ok-shown.shown in
    let closed = c.in-Some.closed in
    let decided = subst (IsDecidedBy IsOrderedForwardTable shown) c.in-Some.is c.in_ok-closed.ensures in (
      table_says c.law_controllable_is_shown.ensures c.args.net.now shown c.sound.ensures c.in_ok-shown.ensures IsOrderedForwardTable _ closed c.in_ok-closed.ensures c.in-Some.is,
      c.in_ok-shown.ensures,
      forward_dispatch shown closed _ decided.1 c.in_ok-dispatch-in-Some.ensures,
    )

pub returns-in-None : goal.returns-in-None
returns-in-None g c = none_says c.law_controllable_is_shown.ensures c.args.net.now c.in_ok-shown.shown c.sound.ensures c.in_ok-shown.ensures IsOrderedForwardTable _ c.in_ok-closed.ensures c.in-None.is
