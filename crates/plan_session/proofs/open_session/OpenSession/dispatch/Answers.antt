use Rattle.std.proofs.Common.{subst}
use Rattle.std.specs.Prelude.{IfOk}
use Rattle.plan_session.specs.Kept.{IsDispatchIfControllable}
use Rattle.plan_session.specs.Sessions.{SessionView}
use Rattle.plan_session.proofs.open_session.OpenSession.dispatch.Goals as goal

pub returns : goal.returns
returns c = subst (λ (session : SessionView). IfOk c.dispatch.result (IsDispatchIfControllable session.state.net)) c.self.view_is c.dispatch.ensures
