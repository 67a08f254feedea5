-- The judgement of a certificate: it is accepted, or the first that does not pass, at its line, and why.
use Rattle.std.specs.Prelude.{ℕ, ◌+◌, List, [], ◌∷◌, ◌++◌, length, Ok, Err}
use Rattle.net_model.specs.Network.{Plan}
use Rattle.cert_format.specs.declared.certificate.Certificate.{Certificate}
use Rattle.cert_format.specs.declared.certificate.Certificate.TheVariants.{Refutation, TableProof}
use Rattle.cert_format.specs.declared.line.CertLine.{CertLine}
use Rattle.cert_format.specs.JudgementForms.{◌>>=◌}
use Rattle.cert_checker.specs.Lines.{Passes, line_passes}
use Rattle.cert_checker.specs.Walk.{WalkPasses, refusal, walk_passes}
use Rattle.cert_checker.specs.Tables.{table_passes}
use Rattle.cert_checker.specs.declared.judgement.Judgement.{Judgement}
use Rattle.cert_checker.specs.declared.judgement.Judgement.TheVariants.{Accepted, Refused}
use Rattle.cert_checker.specs.declared.judgement.Claim.{Claim}
use Rattle.cert_checker.specs.declared.judgement.Claim.TheVariants.{NotControllable, Controllable}

-- a line is refused at its number
abbrev pub at_number : ℕ → Passes → WalkPasses
at_number number (Ok passed) = Ok tt
at_number number (Err why) = Err (refusal number why)

-- each of these lines passes, by the lines before it; `earlier` come before them all
abbrev pub lines_pass : Plan → List CertLine → List CertLine → WalkPasses
lines_pass net earlier [] = Ok tt
lines_pass net earlier (line ∷ lines) = do
  passes ← at_number (length earlier + 1) (line_passes net earlier line)
  lines_pass net (earlier ++ line ∷ []) lines

-- a refutation passes: its lines, then its walk
unfoldable pub refutation_passes : Plan → List CertLine → List ℕ → WalkPasses
refutation_passes net lines walk = do
  rules ← lines_pass net [] lines
  walk_passes lines walk

-- a certificate that is a refutation
abbrev pub IsRefutation : Certificate → Type 0
IsRefutation (Refutation lines walk) = Unit {0}
IsRefutation (TableProof order entries) = ⊥

-- the judgement of a certificate with a claim, by whether it passes
abbrev pub judged : Claim → WalkPasses → Judgement
judged claim (Ok passed) = Accepted claim
judged claim (Err refusal) = Refused refusal.line refusal.why

-- the judgement of a certificate
abbrev pub judgement_of : Plan → Certificate → Judgement
judgement_of net (Refutation lines walk) = judged NotControllable (refutation_passes net lines walk)
judgement_of net (TableProof order entries) = judged Controllable (table_passes net order entries)
