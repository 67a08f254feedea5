-- What is read of a text of lines in sections, line by line, or its first fault.
use Rattle.std.specs.Prelude.{◌≡◌, ℕ, ◌+◌, Bool, true, false, List, [], ◌∷◌, Option, None, Some, Result, Ok, Err, codes, find, if◌then◌else◌}
use Rattle.std.specs.Str.{bytes_eq}
use Rattle.texts.specs.Words.{is_remark, words}
use Rattle.texts.specs.Lines.{lines}
use Rattle.net_model.specs.LineReading.{read_by}
use Rattle.net_model.specs.Places.{Form}
use Rattle.net_model.specs.declared.format.FormatKind.{FormatKind}
use Rattle.net_model.specs.declared.format.FormatKind.TheVariants.{UnknownWord, NoHeader}
use Rattle.net_model.specs.declared.format.FormatFault.{FormatFault}
use Rattle.net_model.specs.declared.format.WordFault.{WordFault}
use Rattle.net_model.specs.declared.format.WordFault.TheVariants as word
use Rattle.net_model.specs.declared.format.TextFault.{TextFault}
use Rattle.net_model.specs.declared.format.TextFault.TheVariants as whole
use Rattle.sectioned_texts.specs.SectionedTexts.{SectionedText, missing_in}

-- what a header says that is there, or else no line begins so
abbrev pub header_or_unknown : {L : Type 0} → Option L → Result L FormatKind
header_or_unknown None = Err UnknownWord
header_or_unknown (Some said) = Ok said

-- what the first version of a header says, by the word of the version
abbrev pub version_one : {L : Type 0} → L → List ℕ → Option L
version_one said version = if bytes_eq version (codes "1") then Some said else None

-- the words after the first word of a header: one, of which it says something
abbrev pub header_line : {L : Type 0} → (List ℕ → Option L) → List (List ℕ) → Result L FormatKind
header_line says (version ∷ []) = header_or_unknown (says version)
header_line says others = Err UnknownWord

-- if the header must come, a line that is not the header is `NoHeader`
abbrev pub refused_by : {L : Type 0} → (opens : Bool) → Result L FormatKind → Result L FormatKind
refused_by opens (Ok said) = Ok said
refused_by true (Err kind) = Err NoHeader
refused_by false (Err kind) = Err kind

-- a value that was read, and the lines after its text
pub record ReadValue (V : Type 0) : Type 0 where
  pub value : V
  pub after : List (List ℕ)

-- the value without the lines after its text
abbrev pub value_part : {V : Type 0} → Result (ReadValue V) FormatFault → Result V FormatFault
value_part (Ok read) = Ok read.value
value_part (Err fault) = Err fault

-- the fault of the line of a number
abbrev pub fault_at : {V : Type 0} → ℕ → FormatKind → Result (ReadValue V) FormatFault
fault_at number kind = Err (record { line = number; kind = kind })

-- the fault of a text whose line has a fault
abbrev pub fault_at_line : ℕ → WordFault → TextFault
fault_at_line number (word.Kind kind) = whole.Format (record { line = number; kind = kind })
fault_at_line number word.OutOfMemory = whole.OutOfMemory

-- the answer is what the line says, unless memory ran out
abbrev pub SaysLine : {L : Type 0} → Result L WordFault → Result L FormatKind → Type 0
SaysLine (Ok said) read = read ≡ Ok said
SaysLine (Err (word.Kind kind)) read = read ≡ Err kind
SaysLine (Err word.OutOfMemory) read = Unit {0}

-- the answer is what the text says, unless memory ran out
abbrev pub SaysText : {V : Type 0} → Result V TextFault → Result V FormatFault → Type 0
SaysText (Ok value) read = read ≡ Ok value
SaysText (Err (whole.Format fault)) read = read ≡ Err fault
SaysText (Err whole.OutOfMemory) read = Unit {0}

module _ {S K L P V : Type 0} (text : SectionedText S K L P V) where
  -- the first word that a word is
  abbrev pub word_of : List ℕ → Option K
  word_of word = find (λ first. bytes_eq word (text.spelled first)) text.first_words

  -- a line by its form, if it is not the header
  abbrev pub line_by : Option (Form L) → List (List ℕ) → Result L FormatKind
  line_by None others = header_line text.header others
  line_by (Some form) others = read_by form others

  -- a line by its first word
  abbrev pub line_after : K → List (List ℕ) → Result L FormatKind
  line_after first others = line_by (text.form_of first) others

  -- a line that must begin with one of some first words, by the word with which it begins
  abbrev pub line_among : (K → Bool) → Option K → List (List ℕ) → Result L FormatKind
  line_among may None others = Err UnknownWord
  line_among may (Some first) others = if may first then line_after first others else Err UnknownWord

  -- a line in a section
  unfoldable pub line_in : S → List (List ℕ) → Result L FormatKind
  line_in section [] = Ok text.blank
  line_in section (first ∷ others) =
      if is_remark first then Ok text.blank else refused_by (text.opens section) (line_among (text.admits section) (word_of first) others)

  -- what is read from a line on that says this: the value if it is the last one, or else what is read of the lines after it
  abbrev pub read_on : (is_last : Bool) → P → List (List ℕ) → (P → Result (ReadValue V) FormatFault) → Result (ReadValue V) FormatFault
  read_on true read others next = Ok (record { value = text.value read; after = others })
  read_on false read others next = next read

  -- what is read from a line on, by its number, what it says, the lines after it, and what is read of those
  abbrev pub said_from : P → ℕ → Result L FormatKind → List (List ℕ) → (P → Result (ReadValue V) FormatFault) → Result (ReadValue V) FormatFault
  said_from read number (Ok said) others next = read_on (text.is_last said) (text.advanced read said) others next
  said_from read number (Err kind) others next = fault_at number kind

  -- what is read of lines, of which the first has a number, after what was read
  abbrev pub read_from : P → ℕ → List (List ℕ) → Result (ReadValue V) FormatFault
  read_from read number [] = fault_at number (missing_in text (text.section read))
  read_from read number (line ∷ others) =
      said_from read number (line_in (text.section read) (words line)) others (λ more. read_from more (number + 1) others)

  -- what is read of a text, or its first fault
  abbrev pub read_text : List ℕ → Result V FormatFault
  read_text bytes = value_part (read_from text.initial 1 (lines bytes))
