use Rattle.std.proofs.Common.{◌≡◌, ◌++◌, ℕ, List, ap, ◌∙◌, subst}
use Rattle.std.proofs.lemmas.Result.{on_ok_weaker}
use Rattle.net_model.specs.Network.{Plan}
use Rattle.net_model.specs.ShownForm.{shown_form}
use Rattle.closure_certificates.specs.Certified.{Certifies}
use Rattle.session_command.specs.Sessions.{net_of}
use Rattle.session_command.proofs.edited_session.Editing.push_proof.Goals as goal

pub returns-clause-says : goal.returns-clause-says
returns-clause-says g c =
    let cert = c.in_ok-certificate.certificate in
    let stands : c.self.inside.net ≡ net_of c.args.self.now = ap net_of (c.self.view_is ∙ c.in_ok-yes.ensures.same) in
    on_ok_weaker c.push_text.result
    (λ is. (
      cert,
      subst (λ (net : Plan). Certifies (shown_form net) cert) stands c.in_ok-certificate.ensures,
      is ∙ (ap (λ (text : List ℕ). text ++ c.as_slice.result.now) c.requires ∙ (c.as_slice.ensures.value ∙ c.in_ok-text.ensures.text)),
    )) c.push_text.ensures.text
