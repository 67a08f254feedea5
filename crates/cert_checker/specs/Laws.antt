-- What holds of the judgement of certificates: what they say is so, whoever wrote them.
use Rattle.std.specs.Prelude.{◌≡◌, ◌⊎◌, ℕ, List}
use Rattle.net_model.specs.Network.{Plan, IsPlan}
use Rattle.net_model.specs.ShownForm.{shown_form}
use Rattle.strategy_model.specs.Control.{IsControllable}
use Rattle.cert_format.specs.declared.certificate.Certificate.{Certificate}
use Rattle.cert_format.specs.declared.certificate.Certificate.TheVariants.{Refutation, TableProof}
use Rattle.cert_format.specs.declared.entry.Entry.{Entry}
use Rattle.cert_format.specs.declared.line.CertLine.{CertLine}
use Rattle.cert_checker.specs.Judgement.{judgement_of}
use Rattle.cert_checker.specs.Truth.{AreTrueAsShown, passed_lines}
use Rattle.cert_checker.specs.Refusals.{IsRefusedLine, IsRefusedWalk}
use Rattle.cert_checker.specs.TableRefusals.{IsRefusedTable}
use Rattle.cert_checker.specs.declared.judgement.CertFault.{CertFault}
use Rattle.cert_checker.specs.declared.judgement.Judgement.TheVariants.{Accepted, Refused}
use Rattle.cert_checker.specs.declared.judgement.Claim.TheVariants.{NotControllable, Controllable}

-- each line that passes is true, of what is shown, of every strategy that controls the network
abbrev pub PassedLinesAreTrue : Type 0
PassedLinesAreTrue = (net : Plan) (certificate : Certificate) → IsPlan net
    → AreTrueAsShown net (passed_lines certificate (judgement_of (shown_form net) certificate))

-- an accepted refutation excludes every strategy that controls the network
abbrev pub AcceptedExcludes : Type 0
AcceptedExcludes = (net : Plan) (certificate : Certificate) → IsPlan net → judgement_of (shown_form net) certificate ≡ Accepted NotControllable
    → IsControllable net → ⊥

-- an accepted table proof gives a strategy that controls the network
abbrev pub AcceptedControls : Type 0
AcceptedControls = (net : Plan) (certificate : Certificate) → IsPlan net → judgement_of (shown_form net) certificate ≡ Accepted Controllable
    → IsControllable net

-- a refused refutation has one line that is refused, or its walk is
abbrev pub RefusalsAreOfOneLine : Type 0
RefusalsAreOfOneLine =
    (net : Plan) (lines : List CertLine) (walk : List ℕ) (number : ℕ) (why : CertFault) → judgement_of net (Refutation lines walk) ≡ Refused number why
    → IsRefusedLine net lines number why ⊎ IsRefusedWalk net lines walk number why

-- a refused table proof names the first line that does not pass a test; the tests before it are passed
abbrev pub TablesAreRefusedAtTheFirstLine : Type 0
TablesAreRefusedAtTheFirstLine =
    (net : Plan) (order : List (List ℕ)) (entries : List Entry) (number : ℕ) (why : CertFault)
    → judgement_of net (TableProof order entries) ≡ Refused number why → IsRefusedTable net order entries number why
