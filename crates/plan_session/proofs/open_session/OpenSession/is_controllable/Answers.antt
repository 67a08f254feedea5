use Rattle.std.proofs.Common.{sym, subst}
use Rattle.strategy_model.specs.Control.{IsControllable}
use Rattle.plan_session.specs.Sessions.{SessionView}
use Rattle.plan_session.proofs.open_session.OpenSession.is_controllable.Goals as goal

pub returns-clause-no : goal.returns-clause-no
returns-clause-no c =
    λ no controls.
    let yes = c.is_controllable.ensures.1 (subst (λ (session : SessionView). IsControllable session.state.net) (sym c.self.view_is) controls) in
    absurd cc
