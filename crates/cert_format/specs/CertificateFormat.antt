-- What is read of the text of a certificate, and of a line of it alone.
use Rattle.std.specs.Prelude.{ℕ, true, List, [], ◌∷◌, Result, Ok, if◌then◌else◌}
use Rattle.texts.specs.Words.{is_remark}
use Rattle.net_model.specs.declared.format.FormatKind.{FormatKind}
use Rattle.net_model.specs.declared.format.FormatFault.{FormatFault}
use Rattle.sectioned_texts.specs.Reading.{line_among, read_text}
use Rattle.cert_format.specs.Keywords.{keyword_of}
use Rattle.cert_format.specs.CertificateGrammar.{certificate_lines}
use Rattle.cert_format.specs.declared.read.CertText.{CertText}
use Rattle.cert_format.specs.declared.read.CertText.TheVariants as text
use Rattle.cert_format.specs.declared.certificate.Certificate.{Certificate}

-- a line of a certificate, read alone: it may begin with any first word
unfoldable pub cert_text : List (List ℕ) → Result CertText FormatKind
cert_text [] = Ok text.Blank
cert_text (first ∷ others) = if is_remark first then Ok text.Blank else line_among certificate_lines (λ word. true) (keyword_of first) others

-- what is read of a text, or its first fault
unfoldable pub certificate_text : List ℕ → Result Certificate FormatFault
certificate_text bytes = read_text certificate_lines bytes
