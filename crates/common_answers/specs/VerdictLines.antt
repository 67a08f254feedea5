-- What is put of the verdict of a network.
use Rattle.std.specs.Prelude.{◌≡◌, ℕ, List, [], ◌∷◌, ◌++◌, codes}
use Rattle.texts.specs.PrintedLines.{printed_line}
use Rattle.cert_format.specs.CertificateWords.{printed_certificate}
use Rattle.cert_format.specs.declared.certificate.Certificate.{Certificate}
use Rattle.command_engine.specs.declared.endings.End.{End}
use Rattle.command_engine.specs.declared.endings.End.TheVariants.{Done, Refused as RefusedEnd}

-- the line `controllable`
abbrev pub controllable_line : List ℕ
controllable_line = printed_line (codes "controllable" ∷ [])

-- the line `not controllable`
abbrev pub refuted_line : List ℕ
refuted_line = printed_line (codes "not controllable" ∷ [])

-- it is put that a network is controllable
abbrev pub PutsControllable : List ℕ → End → Type 0
PutsControllable put end = (put ≡ controllable_line) × (end ≡ Done)

-- it is put that a network is controllable, and a certificate after that
abbrev pub PutsProved : Certificate → List ℕ → End → Type 0
PutsProved cert put end = (put ≡ controllable_line ++ printed_certificate cert) × (end ≡ Done)

-- it is put that a network is not controllable, and a certificate after that
abbrev pub PutsRefuted : Certificate → List ℕ → End → Type 0
PutsRefuted cert put end = (put ≡ refuted_line ++ printed_certificate cert) × (end ≡ RefusedEnd)
