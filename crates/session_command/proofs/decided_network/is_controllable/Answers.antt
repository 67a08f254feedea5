use Rattle.std.proofs.Common.{ap}
use Rattle.net_model.specs.Network.{Plan}
use Rattle.verdicts.specs.Decisions.{IsOrderedForwardTable}
use Rattle.session_command.proofs.DecidedLemmas.{none_says, table_says, verdict_no, verdict_yes}
use Rattle.session_command.proofs.decided_network.is_controllable.Goals as goal

pub forward_table_if_controllable-requires-clause-no_delay : goal.forward_table_if_controllable-requires-clause-no_delay
forward_table_if_controllable-requires-clause-no_delay g c = λ lifetimes lives. ap (λ (net : Plan). net.delay) c.in_ok-shown.ensures

pub returns-in-Some : goal.returns-in-Some
returns-in-Some g c = verdict_yes c.args.net.now (table_says c.law_controllable_is_shown.ensures c.args.net.now c.in_ok-shown.shown c.sound.ensures c.in_ok-shown.ensures IsOrderedForwardTable _ _ c.in_ok-forward_table_if_controllable.ensures c.in-Some.is)

pub returns : goal.returns
returns g c = verdict_no c.args.net.now (none_says c.law_controllable_is_shown.ensures c.args.net.now c.in_ok-shown.shown c.sound.ensures c.in_ok-shown.ensures IsOrderedForwardTable _ c.in_ok-forward_table_if_controllable.ensures c.in-None.is)
