use Rattle.std.proofs.Common.{subst}
use Rattle.net_model.specs.ShownForm.{shown_form}
use Rattle.closure_certificates.specs.Certified.{Certifies}
use Rattle.plan_session.specs.Sessions.{SessionView}
use Rattle.plan_session.proofs.session.Session.certificate.Goals as goal

pub returns-in_ok-certificate-in-Some-clause-one : goal.returns-in_ok-certificate-in-Some-clause-one
returns-in_ok-certificate-in-Some-clause-one g c =
    let made = c.in_ok-certificate-in-Some in
    let decides = subst (λ (session : SessionView). Certifies (shown_form session.state.net) made.field-0) c.self.view_is made.ensures in
    λ other of. c.law_certificates_are_one.ensures (shown_form c.args.self.now.state.net) made.field-0 other decides of
