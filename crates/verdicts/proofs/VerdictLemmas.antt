-- What decides the verdict of a network, and what a certificate of it says.
use Rattle.std.proofs.Common.{◌≡◌, Some, sym, ap, ◌∙◌, subst, inl, inr}
use Rattle.net_model.specs.Network.{Plan, IsPlan}
use Rattle.net_model.specs.ShownForm.{shown_form}
use Rattle.strategy_model.specs.Control.{IsControllable}
use Rattle.strategy_model.specs.Plays.{IsInstant}
use Rattle.strategy_model.specs.ShownLaws.{ControllableIsShown}
use Rattle.network_closure.specs.Saturation.{IsClosedBy}
use Rattle.network_closure.specs.declared.closure.Closed.{Closed}
use Rattle.cert_format.specs.CertificateWords.{HasWeights}
use Rattle.cert_format.specs.declared.certificate.Certificate.{Certificate}
use Rattle.refutation_certificates.specs.Refutations.{Refutes}
use Rattle.closure_certificates.specs.Certified.{Certifies, Proves, TableProofsProve}
use Rattle.closure_certificates.specs.TableProofs.{table_proof_of}
use Rattle.verdicts.specs.Decisions.{IsDecidedBy, IsOrderedClosure}
use Rattle.verdicts.specs.Verdict.{IsControllableBy, IsRefutedBy, IsVerdictBy, refutation_of}
use Rattle.verdicts.specs.declared.verdict.Verdict.{Verdict}
use Rattle.verdicts.specs.declared.verdict.Verdict.TheVariants.{Controllable, Refuted}

-- what is decided of the shown form decides the network
pub shown_decides : {T : Type 0} (By : Plan → T → Type 0) → ControllableIsShown → (net shown : Plan) (closed : T) → IsPlan net → shown ≡ shown_form net → IsDecidedBy By shown (Some closed)
    → IsControllableBy By net shown closed
shown_decides By law net shown closed plan is decided = record {
  as_shown = is;
  controllable = (law net plan).1 (subst IsControllable is decided.0);
  by = decided.1;
}

pub shown_excludes : ControllableIsShown → (net shown : Plan) → IsPlan net → shown ≡ shown_form net → (¬ IsControllable shown) → ¬ IsControllable net
shown_excludes law net shown plan is never = λ controls. never (subst IsControllable (sym is) ((law net plan).0 controls))

-- what refutes a network by its verdict refutes it
pub verdict_refutes : {T : Type 0} (By : Plan → T → Type 0) (net : Plan) (verdict : Verdict T) → IsVerdictBy By net verdict → IsRefutedBy net (refutation_of verdict)
verdict_refutes By net (Controllable stated shown closed) (same, by) = subst IsControllable same by.controllable
verdict_refutes By net (Refuted cert) is = is

-- the table proof by the closure of a controllable network without a delay proves it so
pub closure_proves : TableProofsProve → (net shown : Plan) (closed : Closed) (cert : Certificate) → shown ≡ net → IsInstant net → IsControllable net → IsClosedBy shown closed
    → cert ≡ table_proof_of shown closed.table closed.order → Proves net cert
closure_proves law net shown closed cert same instant controls is made =
    let by : IsClosedBy net closed = subst (λ (n : Plan). IsClosedBy n closed) same is in
    let proves : Proves net (table_proof_of net closed.table closed.order) = law net closed.table closed.order instant.sound controls by.closure by.order by.placed in
    subst (Proves net) (sym (made ∙ ap (λ (n : Plan). table_proof_of n closed.table closed.order) same)) proves

-- so what is made by a closure of the shown form and the order of its placed points proves that controllable
pub table_proof_proves : TableProofsProve → ControllableIsShown → (net shown : Plan) (closed : Closed) (cert : Certificate) → IsPlan net → IsControllableBy IsOrderedClosure net shown closed
    → cert ≡ table_proof_of shown closed.table closed.order → Proves (shown_form net) cert
table_proof_proves law shows net shown closed cert plan decided made =
    let by = decided.by in
    closure_proves law (shown_form net) shown closed cert decided.as_shown (subst IsInstant decided.as_shown by.instant) ((shows net plan).0 decided.controllable)
    (record { closure = by.closure; order = by.ordered; placed = by.placed }) made

-- a certificate that decides a network can be printed
pub decides_in_print : (net : Plan) (cert : Certificate) → Certifies net cert → HasWeights cert
decides_in_print net cert (inl proves) = proves.weights
decides_in_print net cert (inr refutes) = refutes.weights

-- one that decides a controllable network proves it so
pub decides_yes : (net : Plan) (cert : Certificate) → IsControllable net → Certifies net cert → Proves net cert
decides_yes net cert controls (inl proves) = proves
decides_yes net cert controls (inr refutes) = absurd (refutes.never controls)

-- one that decides a network that is not controllable refutes it
pub decides_no : (net : Plan) (cert : Certificate) → (¬ IsControllable net) → Certifies net cert → Refutes net cert
decides_no net cert never (inl proves) = absurd (never proves.some)
decides_no net cert never (inr refutes) = refutes
