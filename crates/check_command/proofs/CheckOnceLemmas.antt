-- `check` answers a network in one way.
use Rattle.std.proofs.Common.{◌≡◌, ℕ, Bool, true, false, List, ◌++◌, inl, sym, ap, ◌∙◌}
use Rattle.net_model.specs.Network.{Plan}
use Rattle.net_model.specs.ShownForm.{shown_form}
use Rattle.cert_format.specs.CertificateWords.{printed_certificate}
use Rattle.cert_format.specs.declared.certificate.Certificate.{Certificate}
use Rattle.closure_certificates.specs.Certified.{Proves}
use Rattle.closure_certificates.proofs.LawProofs.{law_certificates_are_one}
use Rattle.command_engine.specs.declared.endings.End.{End}
use Rattle.common_answers.specs.VerdictLines.{controllable_line}
use Rattle.command_contracts.proofs.PutVerdictLemmas.{answers_once}
use Rattle.check_command.specs.CheckAnswers.{PutsYes, check_answers}
use Rattle.check_command.specs.declared.check_question.CheckFlags.{CheckFlags}

yes_once : (proof : Bool) (net : Plan) (a b : List ℕ) (x y : End) → PutsYes proof net a x → PutsYes proof net b y → (a ≡ b) × (x ≡ y)
yes_once false net a b x y puts also = (puts.0 ∙ sym also.0, puts.1 ∙ sym also.1)
yes_once true net a b x y (cert, proves, puts) (other, is, also) =
    (puts.0 ∙ (ap (λ (c : Certificate). controllable_line ++ printed_certificate c) (law_certificates_are_one (shown_form net) cert other (inl proves) (inl is)) ∙ sym also.0), puts.1 ∙ sym also.1)

pub check_answers_once : (flags : CheckFlags) (net : Plan) (a b : List ℕ) (x y : End) → check_answers flags net a x → check_answers flags net b y → (a ≡ b) × (x ≡ y)
check_answers_once flags net a b x y = answers_once net (PutsYes flags.proof net) (yes_once flags.proof net) a b x y
