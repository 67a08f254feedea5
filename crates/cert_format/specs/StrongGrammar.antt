-- The grammar of the texts of strong certificates: what their lines say, their sections, what is read of them, and by these the text of a
-- strong certificate as a text of lines in sections.
use Rattle.std.specs.Prelude.{◌≡◌, ℕ, Bool, true, false, IsTrue, List, [], ◌∷◌, ◌++◌, Result}
use Rattle.net_model.specs.Names.{is_name}
use Rattle.net_model.specs.declared.format.FormatFault.{FormatFault}
use Rattle.sectioned_texts.specs.SectionedTexts.{SectionedText, IsPrefixOf, AreTextOf, IsFirstFaultOf}
use Rattle.sectioned_texts.specs.Spellings.{Spelling, Spell, DeclareSpelled}
use Rattle.sectioned_texts.specs.Reading.{read_text, version_one}
use Rattle.cert_format.specs.CertificateWords.{end_words}
use Rattle.cert_format.specs.StrongForms.{first_words, spelled, form_of}
use Rattle.cert_format.specs.StrongWords.{header_words, by_words, ring_words, strong_words, IsSpelledBy, IsSpelledStrong}
use Rattle.cert_format.specs.declared.strong_word.StrongWord.{StrongWord}
use Rattle.cert_format.specs.declared.strong_word.StrongWord.TheVariants as word
use Rattle.cert_format.specs.declared.strong_section.StrongSection.{StrongSection}
use Rattle.cert_format.specs.declared.strong_section.StrongSection.TheVariants as section
use Rattle.cert_format.specs.declared.strong_cert.StrongCert.{StrongCert}
use Rattle.cert_format.specs.declared.strong_cert.StrongLine.{StrongLine}
use Rattle.cert_format.specs.declared.strong_read.StrongTextLine.{StrongTextLine}
use Rattle.cert_format.specs.declared.strong_read.StrongTextLine.TheVariants as text

-- the words of a line, by what it says
abbrev pub text_words : StrongTextLine → List (List ℕ)
text_words text.Blank = []
text_words text.Header = header_words
text_words (text.By line) = by_words line
text_words (text.Ring point) = ring_words point
text_words text.End = end_words

-- what a line says can be spelled
abbrev pub IsSpelledText : StrongTextLine → Type 0
IsSpelledText text.Blank = ⊥
IsSpelledText (text.By line) = IsSpelledBy line
IsSpelledText (text.Ring point) = IsTrue (is_name point)
IsSpelledText others = Unit {0}

-- how strong certificates are spelled
abbrev pub strong_spelling : Spelling StrongTextLine StrongCert
strong_spelling = record {
  words_of = text_words;
  IsSpelled = IsSpelledText;
  value_words = strong_words;
  end_words = end_words;
  IsSpelledValue = IsSpelledStrong;
}

-- The lines declare a strong certificate, and these lines come after it: the lines up to the `end` line are spelled as the certificate is, with blank lines
-- between.
abbrev pub DeclareStrong : List (List ℕ) → StrongCert → List (List ℕ) → Type 0
DeclareStrong = DeclareSpelled strong_spelling

-- which first words may come in a section
abbrev pub admits : StrongSection → StrongWord → Bool
admits section.Header word.Strong = true
admits section.Lines word.By = true
admits section.Lines word.Ring = true
admits section.Lines word.End = true
admits section.By word.By = true
admits section.By word.End = true
admits section.Ring word.Ring = true
admits section.Ring word.End = true
admits others first = false

-- in the first section the header must come
abbrev pub opens : StrongSection → Bool
opens section.Header = true
opens others = false

-- a strong certificate ends with the line `end`
abbrev pub is_last : StrongTextLine → Bool
is_last text.End = true
is_last others = false

-- what was read of a strong certificate: the section that is reached, and so far the lines of bounds and the points of a ring
pub record StrongProgress : Type 0 where
  pub section : StrongSection
  pub by : List StrongLine
  pub ring : List (List ℕ)

-- before the first line
abbrev pub initial : StrongProgress
initial = record { section = section.Header; by = []; ring = [] }

-- what was read, with one line more
abbrev pub advanced : StrongProgress → StrongTextLine → StrongProgress
advanced read text.Blank = read
advanced read text.Header = record read { section = section.Lines }
advanced read (text.By line) = record read { section = section.By; by = read.by ++ line ∷ [] }
advanced read (text.Ring point) = record read { section = section.Ring; ring = read.ring ++ point ∷ [] }
advanced read text.End = read

-- the certificate of which all was read
abbrev pub strong_of : StrongProgress → StrongCert
strong_of read = record { by = read.by; ring = read.ring }

-- the text of a strong certificate as a text of lines in sections
abbrev pub strong_lines : SectionedText StrongSection StrongWord StrongTextLine StrongProgress StrongCert
strong_lines = record {
  first_words = first_words;
  spelled = spelled;
  admits = admits;
  form_of = form_of;
  header = version_one text.Header;
  IsHeader = λ line. line ≡ header_words;
  opens = opens;
  says = Spell strong_spelling;
  blank = text.Blank;
  is_last = is_last;
  initial = initial;
  section = λ read. read.section;
  advanced = advanced;
  value = strong_of;
  declares = DeclareStrong;
}

-- the text of a strong certificate, with anything after it
abbrev pub IsStrongText : List ℕ → StrongCert → Type 0
IsStrongText = AreTextOf strong_lines

-- the prefix of a strong certificate: its lines lead to what is read of them
abbrev pub IsStrongPrefix : List (List ℕ) → StrongProgress → Type 0
IsStrongPrefix = IsPrefixOf strong_lines

-- the first fault of lines that are no strong certificate
abbrev pub IsFirstStrongFault : List (List ℕ) → FormatFault → Type 0
IsFirstStrongFault = IsFirstFaultOf strong_lines

-- what is read of a text, or its first fault
unfoldable pub strong_text : List ℕ → Result StrongCert FormatFault
strong_text bytes = read_text strong_lines bytes
