use Rattle.std.proofs.Common.{refl, subst}
use Rattle.plan_session.specs.Kept.{opened_of}
use Rattle.plan_session.specs.SessionNetworks.{NetworkView}
use Rattle.plan_session.specs.Sessions.{IsOpenedOn, open_state}
use Rattle.plan_session.proofs.open_session.OpenSession.open.Goals as goal

pub returns-clause-opened : goal.returns-clause-opened
returns-clause-opened g c =
    let opened = opened_of c.in_ok-propagated.propagated in
    subst (λ (network : NetworkView). IsOpenedOn network.net (open_state c.in_ok-network.network.net opened)) c.in_ok-network.ensures (opened, c.in_ok-propagated.ensures.opened, refl)
