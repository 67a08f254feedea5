-- The grammar of the texts of certificates: what their lines say, their sections, what is read of them, and by these the text of a
-- certificate as a text of lines in sections.
use Rattle.std.specs.Prelude.{◌≡◌, ◌≢◌, ℕ, ◌≤◌, Bool, true, false, IsTrue, is_some, List, [], ◌∷◌, ◌++◌}
use Rattle.texts.specs.Words.{words}
use Rattle.net_model.specs.Names.{is_name}
use Rattle.net_model.specs.declared.format.FormatFault.{FormatFault}
use Rattle.net_model.specs.declared.format.WordFault.{WordFault}
use Rattle.net_model.specs.declared.format.WordFault.TheVariants as word
use Rattle.sectioned_texts.specs.FormFaults.{IsFaultAmong}
use Rattle.sectioned_texts.specs.SectionedTexts.{SectionedText, IsPrefixOf, AreTextOf, IsFirstFaultOf}
use Rattle.sectioned_texts.specs.Reading.{version_one}
use Rattle.sectioned_texts.specs.Spellings.{Spelling, Spell, DeclareSpelled}
use Rattle.cert_format.specs.Limits.{most_line_number}
use Rattle.cert_format.specs.LineForms.{form_of}
use Rattle.cert_format.specs.Keywords.{keywords, spelled, is_of_refutation, is_of_table}
use Rattle.cert_format.specs.CertificateWords.{line_words, walk_words, order_words, entry_words, header_words, refutation_words, table_words, end_words}
use Rattle.cert_format.specs.CertificateWords.{certificate_words, IsSpelledLine, IsSpelledEntry, IsSpelled}
use Rattle.cert_format.specs.declared.keyword.Keyword.{Keyword}
use Rattle.cert_format.specs.declared.keyword.Keyword.TheVariants as keyword
use Rattle.cert_format.specs.declared.section.Section.{Section}
use Rattle.cert_format.specs.declared.section.Section.TheVariants as section
use Rattle.cert_format.specs.declared.line.CertLine.{CertLine}
use Rattle.cert_format.specs.declared.entry.Entry.{Entry}
use Rattle.cert_format.specs.declared.read.CertText.{CertText}
use Rattle.cert_format.specs.declared.read.CertText.TheVariants as text
use Rattle.cert_format.specs.declared.certificate.Certificate.{Certificate}
use Rattle.cert_format.specs.declared.certificate.Certificate.TheVariants.{Refutation, TableProof}

-- the words of a line, by what it says
abbrev pub text_words : CertText → List (List ℕ)
text_words text.Blank = []
text_words text.Header = header_words
text_words text.Refutation = refutation_words
text_words text.Table = table_words
text_words (text.Line line) = line_words line
text_words (text.Walk i) = walk_words i
text_words (text.Order point) = order_words point
text_words (text.Entry entry) = entry_words entry
text_words text.End = end_words

-- what a line says can be spelled
abbrev pub IsSpelledText : CertText → Type 0
IsSpelledText text.Blank = ⊥
IsSpelledText (text.Line line) = IsSpelledLine line
IsSpelledText (text.Walk i) = i ≤ most_line_number
IsSpelledText (text.Order point) = IsTrue (is_name point)
IsSpelledText (text.Entry entry) = IsSpelledEntry entry
IsSpelledText others = Unit {0}

-- how certificates are spelled
abbrev pub certificate_spelling : Spelling CertText Certificate
certificate_spelling = record {
  words_of = text_words;
  IsSpelled = IsSpelledText;
  value_words = certificate_words;
  end_words = end_words;
  IsSpelledValue = IsSpelled;
}

-- a line says this
abbrev pub IsCertificateLine : CertText → List ℕ → Type 0
IsCertificateLine said line = Spell certificate_spelling said (words line)

-- The lines declare a certificate, and these lines come after it: the lines up to the `end` line are spelled as the certificate is, with blank lines between.
abbrev pub DeclareCertificate : List (List ℕ) → Certificate → List (List ℕ) → Type 0
DeclareCertificate = DeclareSpelled certificate_spelling

-- which first words may come in a section
abbrev pub admits : Section → Keyword → Bool
admits section.Header keyword.Certificate = true
admits section.Kind keyword.Refutation = true
admits section.Kind keyword.Table = true
admits section.Rules first = is_of_refutation first
admits section.Walk keyword.Walk = true
admits section.Walk keyword.End = true
admits section.Order first = is_of_table first
admits section.Entries keyword.Edge = true
admits section.Entries keyword.Upper = true
admits section.Entries keyword.End = true
admits others first = false

-- in the first section the header must come
abbrev pub opens : Section → Bool
opens section.Header = true
opens others = false

-- a certificate ends with the line `end`
abbrev pub is_last : CertText → Bool
is_last text.End = true
is_last others = false

-- what was read of a certificate: the section that is reached, and so far the rule lines and the walk of a refutation, the order
-- and the entries of a table proof
pub record CertificateProgress : Type 0 where
  pub section : Section
  pub lines : List CertLine
  pub walk : List ℕ
  pub order : List (List ℕ)
  pub entries : List Entry

-- before the first line
abbrev pub initial : CertificateProgress
initial = record { section = section.Header; lines = []; walk = []; order = []; entries = [] }

-- what was read, with one line more
abbrev pub advanced : CertificateProgress → CertText → CertificateProgress
advanced read text.Blank = read
advanced read text.Header = record read { section = section.Kind }
advanced read text.Refutation = record read { section = section.Rules }
advanced read text.Table = record read { section = section.Order }
advanced read (text.Line line) = record read { lines = read.lines ++ line ∷ [] }
advanced read (text.Walk i) = record read { section = section.Walk; walk = read.walk ++ i ∷ [] }
advanced read (text.Order point) = record read { order = read.order ++ point ∷ [] }
advanced read (text.Entry entry) = record read { section = section.Entries; entries = read.entries ++ entry ∷ [] }
advanced read text.End = read

-- the certificate of which all was read, by the section in which it ends
abbrev pub certificate_by : Section → CertificateProgress → Certificate
certificate_by section.Order read = TableProof read.order read.entries
certificate_by section.Entries read = TableProof read.order read.entries
certificate_by others read = Refutation read.lines read.walk

-- the certificate of all that was read
abbrev pub certificate_of : CertificateProgress → Certificate
certificate_of read = certificate_by read.section read

-- the text of a certificate as a text of lines in sections
abbrev pub certificate_lines : SectionedText Section Keyword CertText CertificateProgress Certificate
certificate_lines = record {
  first_words = keywords;
  spelled = spelled;
  admits = admits;
  form_of = form_of;
  header = version_one text.Header;
  IsHeader = λ line. line ≡ header_words;
  opens = opens;
  says = Spell certificate_spelling;
  blank = text.Blank;
  is_last = is_last;
  initial = initial;
  section = λ read. read.section;
  advanced = advanced;
  value = certificate_of;
  declares = DeclareCertificate;
}

-- the text of a certificate, with anything after it
abbrev pub IsCertificateText : List ℕ → Certificate → Type 0
IsCertificateText = AreTextOf certificate_lines

-- the prefix of a certificate: its lines lead to what is read of them
abbrev pub IsPrefix : List (List ℕ) → CertificateProgress → Type 0
IsPrefix = IsPrefixOf certificate_lines

-- the first fault of lines that are no certificate
abbrev pub IsFirstCertificateFault : List (List ℕ) → FormatFault → Type 0
IsFirstCertificateFault = IsFirstFaultOf certificate_lines

-- the first words of the lines after the header: those whose lines have a form
abbrev pub comes_after_header : Keyword → Bool
comes_after_header first = is_some (form_of first)

-- the fault of a line that is read alone; it takes no memory
abbrev pub IsCertificateFaultAlone : List ℕ → WordFault → Type 0
IsCertificateFaultAlone line (word.Kind kind) = (words line ≢ header_words) × IsFaultAmong spelled form_of comes_after_header (words line) kind
IsCertificateFaultAlone line word.OutOfMemory = ⊥
