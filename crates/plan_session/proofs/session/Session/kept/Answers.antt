use Rattle.std.proofs.Common.{Option, ap, sym, ◌∙◌, subst}
use Rattle.std.specs.Option.{option_map}
use Rattle.std.specs.Prelude.{IfSome}
use Rattle.plan_session.specs.Kept.{IsKept, opened_of}
use Rattle.plan_session.specs.Sessions.{SessionView}
use Rattle.plan_session.specs.declared.propagated.Propagated.{Propagated}
use Rattle.plan_session.proofs.session.Session.kept.Goals as goal

pub returns-clause-opened : goal.returns-clause-opened
returns-clause-opened c = ap (λ (session : SessionView). session.state.opened) (sym c.self.view_is) ∙ ap (option_map opened_of) c.in-Some.is

pub returns-clause-kept : goal.returns-clause-kept
returns-clause-kept c =
    subst (λ (session : SessionView). IsKept session.state.net c.in-Some.propagated) c.self.view_is (subst (λ (held : Option Propagated). IfSome held (IsKept c.self.inside.network.net)) c.in-Some.is c.self.invariant)
