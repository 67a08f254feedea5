-- The verdict of a network, and by what it is decided.
use Rattle.std.specs.Prelude.{◌≡◌, ◌⊎◌, Option, Some, None}
use Rattle.net_model.specs.Network.{Plan}
use Rattle.net_model.specs.ShownForm.{shown_form}
use Rattle.strategy_model.specs.Control.{IsControllable}
use Rattle.cert_format.specs.declared.certificate.Certificate.{Certificate}
use Rattle.refutation_certificates.specs.Refutations.{Refutes}
use Rattle.verdicts.specs.declared.verdict.Verdict.{Verdict}
use Rattle.verdicts.specs.declared.verdict.Verdict.TheVariants.{Controllable, Refuted}

-- the verdict of a network: it is controllable, and then this is so; or it is not, and then this of the certificate that refutes its shown
-- form
abbrev pub Decides : Plan → Type 0 → (Certificate → Type 0) → Type 0
Decides net Yes No = (IsControllable net × Yes) ⊎ ((¬ IsControllable net) × ((cert : Certificate) × Refutes (shown_form net) cert × No cert))

-- a network is controllable, and this is so of a table of its shown form
pub record IsControllableBy {T : Type 0} (By : Plan → T → Type 0) (net shown : Plan) (closed : T) : Type 0 where
  pub as_shown : shown ≡ shown_form net
  pub controllable : IsControllable net
  pub by : By shown closed

-- what decides it: a table of its shown form if it is controllable, else a certificate that refutes that
abbrev pub IsVerdictBy : {T : Type 0} → (Plan → T → Type 0) → Plan → Verdict T → Type 0
IsVerdictBy By net (Controllable stated shown closed) = (stated ≡ net) × IsControllableBy By stated shown closed
IsVerdictBy By net (Refuted cert) = (¬ IsControllable net) × Refutes (shown_form net) cert

-- the certificate that refutes it, unless it is controllable
abbrev pub refutation_of : {T : Type 0} → Verdict T → Option Certificate
refutation_of (Controllable stated shown closed) = None
refutation_of (Refuted cert) = Some cert

-- a certificate refutes a network, unless it is controllable
abbrev pub IsRefutedBy : Plan → Option Certificate → Type 0
IsRefutedBy net (Some cert) = (¬ IsControllable net) × Refutes (shown_form net) cert
IsRefutedBy net None = IsControllable net
