use Rattle.std.proofs.Common.{subst}
use Rattle.net_model.specs.Network.{Plan}
use Rattle.plan_session.specs.Sessions.{Opens}
use Rattle.plan_session.proofs.SessionLemmas.{opened_by, opens, opens_kept}
use Rattle.plan_session.proofs.propagated.Propagated.of.Goals as goal

pub returns-clause-opened : goal.returns-clause-opened
returns-clause-opened g c =
    let after = c.propagate.new.store in
    let outcome = c.in_ok-outcome.outcome in
    subst (λ (net : Plan). Opens net (opened_by after outcome)) c.shown-shown.ensures (opens c.shown-shown.result.now c.in_ok-store.store after outcome c.in_ok-store.ensures.base c.in_ok-outcome.ensures)

pub returns-clause-kept : goal.returns-clause-kept
returns-clause-kept g c =
    let after = c.propagate.new.store in
    let outcome = c.in_ok-outcome.outcome in
    opens_kept c.args.network.now.net _
    (subst (λ (net : Plan). Opens net (opened_by after outcome)) c.shown-shown.ensures (opens c.shown-shown.result.now c.in_ok-store.store after outcome c.in_ok-store.ensures.base c.in_ok-outcome.ensures))
