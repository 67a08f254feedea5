use Rattle.std.proofs.Common.{refl, subst}
use Rattle.plan_session.specs.Kept.{opened_of}
use Rattle.plan_session.specs.Sessions.{IsOpenedOn, SessionView, open_state}
use Rattle.plan_session.proofs.session.Session.reopen.Goals as goal

pub returns-clause-answers : goal.returns-clause-answers
returns-clause-answers g c =
    let opened = opened_of c.in_ok-propagated.propagated in
    subst (λ (session : SessionView). IsOpenedOn session.state.net (open_state c.self.inside.network.net opened)) c.self.view_is (opened, c.in_ok-propagated.ensures.opened, refl)
