-- A network is answered in one way by its verdict: the certificate of its refutation is one.
use Rattle.std.proofs.Common.{inl, inr, subst}
use Rattle.net_model.specs.Network.{Plan}
use Rattle.net_model.specs.ShownForm.{shown_form}
use Rattle.cert_format.specs.declared.certificate.Certificate.{Certificate}
use Rattle.refutation_certificates.proofs.OneCertificate.{certificate_one}
use Rattle.verdicts.specs.Verdict.{Decides}

-- a verdict is one, if what is said of each answer is
pub decided_once : {A : Type 0} (net : Plan) (Yes : A → Type 0) (No : A → Certificate → Type 0) (Same : A → A → Type 0)
    → ((one other : A) → Yes one → Yes other → Same one other) → ((one other : A) (cert : Certificate) → No one cert → No other cert → Same one other)
    → (one other : A) → Decides net (Yes one) (No one) → Decides net (Yes other) (No other) → Same one other
decided_once net Yes No Same same_yes same_no one other (inl (controls, first)) (inl (also, second)) = same_yes one other first second
decided_once net Yes No Same same_yes same_no one other (inl (controls, first)) (inr (never, second)) = absurd (never controls)
decided_once net Yes No Same same_yes same_no one other (inr (never, first)) (inl (controls, second)) = absurd (never controls)
decided_once net Yes No Same same_yes same_no one other (inr (never, (cert, refutes, first))) (inr (also_never, (same, also, second))) =
    same_no one other cert first (subst (No other) (certificate_one (shown_form net) same cert also.of refutes.of) second)
