use Rattle.std.proofs.Common.{◌≡◌, Bool, false, Option, subst}
use Rattle.std.specs.Prelude.{IfSome}
use Rattle.strategy_model.specs.Control.{IsControllable}
use Rattle.session_command.specs.EditHistory.{IsVerdict}
use Rattle.session_command.specs.Sessions.{net_of}
use Rattle.session_command.specs.Standing.{Standing}
use Rattle.session_command.proofs.edited_session.Editing.dispatch.Goals as goal

pub returns-in-Some-false : goal.returns-in-Some-false
returns-in-Some-false g c =
    let net = c.self.inside.net in
    let kept = subst (λ (verdict : Option Bool). IfSome verdict (IsVerdict net)) c.in-Some-false.is c.self.invariant.verdict_so in
    let no : c.in-Some-false.field-0 ≡ false = cc c.in-Some-false.field-0-test in
    subst (λ (standing : Standing). ¬ IsControllable (net_of standing)) c.self.view_is (kept.no no)
