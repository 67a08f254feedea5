use Rattle.std.proofs.Common.{rules, sym, subst}
use Rattle.strategy_model.specs.Control.{IsControllable}
use Rattle.plan_session.specs.Sessions.{SessionView}
use Rattle.plan_session.proofs.session.Session.verdict.Goals as goal

pub returns-else-is_controllable : goal.returns-else-is_controllable
returns-else-is_controllable c = (
  search rules,
  λ controls.
      let yes = c.is_controllable.ensures.1 (subst (λ (session : SessionView). IsControllable session.state.net) (sym c.self.view_is) controls) in
      absurd cc,
)
