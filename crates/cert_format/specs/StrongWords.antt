-- How strong certificates are spelled: their lines, by what these say, and the printed text.
use Rattle.std.specs.Prelude.{◌≡◌, ◌⊎◌, ℕ, ◌≤◌, unsigned_abs, IsTrue, List, [], ◌∷◌, ◌++◌, map, codes}
use Rattle.std.specs.List.{All}
use Rattle.std.specs.Fmt.{signed_decimal}
use Rattle.texts.specs.PrintedLines.{printed}
use Rattle.net_model.specs.Names.{is_name}
use Rattle.cert_format.specs.Limits.{most_written_weight}
use Rattle.cert_format.specs.CertificateWords.{end_words}
use Rattle.cert_format.specs.declared.strong_cert.StrongCert.{StrongCert}
use Rattle.cert_format.specs.declared.strong_cert.StrongLine.{StrongLine}

-- the words of the header
abbrev pub header_words : List (List ℕ)
header_words = codes "strong" ∷ codes "1" ∷ []

-- the words of a line of a bound: `by`, the bound, FROM, TO and W
abbrev pub by_words : StrongLine → List (List ℕ)
by_words line = codes "by" ∷ line.bound ∷ line.from ∷ line.to ∷ signed_decimal line.weight ∷ []

-- the words of a point of a ring
abbrev pub ring_words : List ℕ → List (List ℕ)
ring_words point = codes "ring" ∷ point ∷ []

-- the lines of a certificate: the header, those of its bounds, the points of its ring, and `end`
abbrev pub strong_words : StrongCert → List (List (List ℕ))
strong_words cert = header_words ∷ (map by_words cert.by ++ (map ring_words cert.ring ++ end_words ∷ []))

-- the printed text of a certificate
unfoldable pub printed_strong : StrongCert → List ℕ
printed_strong cert = printed (strong_words cert)

-- a weight within its limit
abbrev pub HasStrongWeight : StrongLine → Type 0
HasStrongWeight line = unsigned_abs line.weight ≤ most_written_weight

-- a line of a bound that can be spelled
pub record IsSpelledBy (line : StrongLine) : Type 0 where
  pub bound : IsTrue (is_name line.bound)
  pub from : IsTrue (is_name line.from)
  pub to : IsTrue (is_name line.to)
  pub weight : HasStrongWeight line

-- all lines are of one kind
abbrev pub OfOneKind : StrongCert → Type 0
OfOneKind cert = (cert.by ≡ []) ⊎ (cert.ring ≡ [])

-- a certificate whose weights are within their limit
abbrev pub HasStrongWeights : StrongCert → Type 0
HasStrongWeights cert = All HasStrongWeight cert.by

-- a certificate that can be spelled
pub record IsSpelledStrong (cert : StrongCert) : Type 0 where
  pub of_one_kind : OfOneKind cert
  pub by : All IsSpelledBy cert.by
  pub ring : All (λ point. IsTrue (is_name point)) cert.ring
