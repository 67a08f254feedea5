-- Texts of lines in sections: what such a text is, as data, and by it which lines may come, what lines declare, and their first fault.
use Rattle.std.specs.Prelude.{◌≡◌, ◌⊎◌, ℕ, ◌+◌, Bool, true, false, List, [], ◌∷◌, ◌++◌, length, Option, Result, Ok, Err}
use Rattle.texts.specs.Words.{are_passed_over, words}
use Rattle.texts.specs.Lines.{lines}
use Rattle.net_model.specs.Places.{Form}
use Rattle.net_model.specs.declared.format.FormatKind.{FormatKind}
use Rattle.net_model.specs.declared.format.FormatKind.TheVariants.{NoHeader, NoEnd}
use Rattle.net_model.specs.declared.format.FormatFault.{FormatFault}
use Rattle.net_model.specs.declared.format.TextFault.{TextFault}
use Rattle.net_model.specs.declared.format.TextFault.TheVariants as whole
use Rattle.net_model.specs.declared.format.WordFault.{WordFault}
use Rattle.net_model.specs.declared.format.WordFault.TheVariants as word
use Rattle.sectioned_texts.specs.FormFaults.{IsFaultAmong}

-- A text of lines in sections, of which `S` are the sections, `K` the first words, `L` what lines say, `P` what was read so far, and `V` the
-- values. `first_words`: all of them, and `spelled`: how one is written. `admits`: whether a line that begins with a word may come in a
-- section. `form_of`: the form of what follows a first word, or none if that is the first word of a header, and then `header`: what the
-- header says, by the one word that follows. `IsHeader`: the words are those of a header. `opens`: in this section the header must come.
-- `says`: these words say this. `blank`: what a line says that is passed over. `is_last`: the text ends with a line that says this.
-- `initial`: before the first line. `section`: the section that is reached. `advanced`: with one line more. `value`: the value of all that
-- was read. `declares`: the lines begin with a text that declares a value, and the other lines stand after it.
pub record SectionedText (S K L P V : Type 0) : Type 1 where
  pub first_words : List K
  pub spelled : K → List ℕ
  pub admits : S → K → Bool
  pub form_of : K → Option (Form L)
  pub header : List ℕ → Option L
  pub IsHeader : List (List ℕ) → Type 0
  pub opens : S → Bool
  pub says : L → List (List ℕ) → Type 0
  pub blank : L
  pub is_last : L → Bool
  pub initial : P
  pub section : P → S
  pub advanced : P → L → P
  pub value : P → V
  pub declares : List (List ℕ) → V → List (List ℕ) → Type 0

-- the fault of a text that ends where the header must come, or later
abbrev pub missing_by : (opens : Bool) → FormatKind
missing_by true = NoHeader
missing_by false = NoEnd

-- a fault in the line after these
abbrev pub fault_after : List (List ℕ) → FormatKind → FormatFault
fault_after prefix kind = record { line = length prefix + 1; kind = kind }

module _ {S K L P V : Type 0} (text : SectionedText S K L P V) where
  -- in a section, a line of these words says this: it is passed over, or it begins with a word that may come there
  pub data IsLineIn (section : S) (said : L) (line : List (List ℕ)) : Type 0 where
    passed_over : are_passed_over line ≡ true → said ≡ text.blank → IsLineIn section said line
    begins : (first : K) (others : List (List ℕ)) → text.admits section first ≡ true → line ≡ text.spelled first ∷ others → text.says said line
        → IsLineIn section said line

  -- lines lead from what was read to what is read with them: each may come in its section, and none is the last one
  abbrev pub Lead : P → List (List ℕ) → P → Type 0
  Lead from [] to = from ≡ to
  Lead from (line ∷ others) to =
      (said : L) × IsLineIn (text.section from) said (words line) × (text.is_last said ≡ false) × Lead (text.advanced from said) others to

  -- the prefix of a text: its lines lead to what is read of them
  abbrev pub IsPrefixOf : List (List ℕ) → P → Type 0
  IsPrefixOf prefix read = Lead text.initial prefix read

  -- the bytes are a text that declares this, with anything after it
  abbrev pub AreTextOf : List ℕ → V → Type 0
  AreTextOf bytes value = (after : List (List ℕ)) × text.declares (lines bytes) value after

  -- lines that can be continued to a text
  abbrev pub CanBecomeText : List (List ℕ) → Type 0
  CanBecomeText prefix = (more : List (List ℕ)) × (value : V) × (after : List (List ℕ)) × text.declares (prefix ++ more) value after

  -- the first of the lines that are left, or that there is none, excludes a text
  abbrev pub ExcludesText : List (List ℕ) → List (List ℕ) → Type 0
  ExcludesText prefix [] = (value : V) (after : List (List ℕ)) → text.declares prefix value after → ⊥
  ExcludesText prefix (line ∷ others) = CanBecomeText (prefix ++ line ∷ []) → ⊥

  -- the fault of a line in a section
  abbrev pub IsFaultBy : (opens : Bool) → S → List (List ℕ) → FormatKind → Type 0
  IsFaultBy true section line kind = (are_passed_over line ≡ false) × (text.IsHeader line → ⊥) × (kind ≡ NoHeader)
  IsFaultBy false section line kind = IsFaultAmong text.spelled text.form_of (text.admits section) line kind

  abbrev pub IsFaultIn : S → List (List ℕ) → FormatKind → Type 0
  IsFaultIn section line kind = IsFaultBy (text.opens section) section line kind

  -- the fault of a text that ends in a section
  abbrev pub missing_in : S → FormatKind
  missing_in section = missing_by (text.opens section)

  -- the fault of the lines that are left when a section is reached
  abbrev pub IsFaultOfRest : S → List (List ℕ) → FormatKind → Type 0
  IsFaultOfRest section [] kind = kind ≡ missing_in section
  IsFaultOfRest section (line ∷ others) kind = IsFaultIn section (words line) kind

  -- The first fault of lines: those before it can be continued to a text, with its line they cannot, and its kind is how that line first departs from what may
  -- come there, or that the text ends.
  pub record IsFirstFaultOf (all : List (List ℕ)) (fault : FormatFault) : Type 0 where
    pub prefix : List (List ℕ)
    pub rest : List (List ℕ)
    pub read : P
    pub whole : all ≡ prefix ++ rest
    pub place : fault.line ≡ length prefix + 1
    pub possible : CanBecomeText prefix
    pub refused : ExcludesText prefix rest
    pub reached : IsPrefixOf prefix read
    pub departs : IsFaultOfRest (text.section read) rest fault.kind

  -- the fault of an answer is the first one of a text
  abbrev pub HasFirstFault : List ℕ → TextFault → Type 0
  HasFirstFault bytes (whole.Format fault) = IsFirstFaultOf (lines bytes) fault
  HasFirstFault bytes whole.OutOfMemory = Unit {0}

  -- what a line brings that is the last one or not: the value, whatever lines come after it, or a longer prefix
  abbrev pub BringsBy : (is_last : Bool) → List (List ℕ) → List ℕ → L → P → Type 0
  BringsBy true prefix line said read = (after : List (List ℕ)) → text.declares (prefix ++ line ∷ after) (text.value read) after
  BringsBy false prefix line said read = text.says said (words line) × IsPrefixOf (prefix ++ line ∷ []) read

  -- what a line brings after a prefix, whatever lines come after it: the value, a longer prefix, or the first fault, unless memory ran out
  abbrev pub LineBrings : List (List ℕ) → List ℕ → Result L WordFault → P → Type 0
  LineBrings prefix line (Ok said) read = BringsBy (text.is_last said) prefix line said read
  LineBrings prefix line (Err (word.Kind kind)) read = (after : List (List ℕ)) → IsFirstFaultOf (prefix ++ line ∷ after) (fault_after prefix kind)
  LineBrings prefix line (Err word.OutOfMemory) read = Unit {0}

  -- lines declare one value, with one list of lines after it, or have one first fault, and not both
  pub record HaveOneReading (all : List (List ℕ)) : Type 0 where
    pub either : ((value : V) × (after : List (List ℕ)) × text.declares all value after) ⊎ ((fault : FormatFault) × IsFirstFaultOf all fault)
    pub one_value : (value other : V) (after later : List (List ℕ)) → text.declares all value after → text.declares all other later
        → (value ≡ other) × (after ≡ later)
    pub one_fault : (fault other : FormatFault) → IsFirstFaultOf all fault → IsFirstFaultOf all other → fault ≡ other
    pub not_both : (value : V) (after : List (List ℕ)) (fault : FormatFault) → text.declares all value after → IsFirstFaultOf all fault → ⊥
