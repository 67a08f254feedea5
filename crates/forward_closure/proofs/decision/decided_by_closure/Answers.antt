use Rattle.std.proofs.Common.{subst}
use Rattle.network_closure.specs.Saturation.{ClosesTo}
use Rattle.forward_closure.proofs.DecisionLemmas.{closure_is_forward, cycle_excludes, forward_decides}
use Rattle.forward_closure.proofs.decision.decided_by_closure.Goals as goal

pub returns-in-None : goal.returns-in-None
returns-in-None g c =
    let net = c.args.net.now in
    cycle_excludes c.law_cycles_of_tables_exclude.ensures net c.requires.instant (subst (ClosesTo net) c.in-None.is c.in_ok-close.ensures)

pub returns-in-Some : goal.returns-in-Some
returns-in-Some g c =
    let net = c.args.net.now in
    let closed = c.in-Some.closed in
    let by = closure_is_forward c.law_closures_are_forward_tables.ensures net closed c.requires.instant (subst (ClosesTo net) c.in-Some.is c.in_ok-close.ensures) in
    forward_decides c.law_ordered_forward_tables_are_controllable.ensures net (record { table = closed.table; order = closed.order }) by
