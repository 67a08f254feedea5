-- A plan text of which lines are read one after another.
use Rattle.std.specs.Prelude.{◌≡◌, ◌≤◌, ℕ, pos, ◌+◌, ◌*◌, true, List, [], ◌∷◌, ◌++◌, length, map, unsigned_abs, Result, Ok, Err}
use Rattle.std.specs.List.{All}
use Rattle.net_model.specs.declared.format.FormatKind.{FormatKind}
use Rattle.net_model.specs.declared.format.FormatKind.TheVariants.{UnknownWord, NoHeader, NoEnd}
use Rattle.net_model.specs.declared.format.FormatFault.{FormatFault}
use Rattle.net_model.specs.declared.format.WordFault.{WordFault}
use Rattle.net_model.specs.declared.format.WordFault.TheVariants as word
use Rattle.net_model.specs.declared.format.TextFault.{TextFault}
use Rattle.net_model.specs.declared.format.TextFault.TheVariants as text
use Rattle.net_model.specs.Between.{between_parts}
use Rattle.net_model.specs.Limits.{most_delay, within_limit}
use Rattle.net_model.specs.Names.{most_short}
use Rattle.net_model.specs.declared.part.Part.{Part}
use Rattle.plan_format.specs.declared.plan_line.PlanLine.{PlanLine}
use Rattle.plan_format.specs.declared.plan_line.PlanLine.TheVariants as line
use Rattle.plan_format.specs.declared.section.PlanSection.{PlanSection}
use Rattle.plan_format.specs.declared.section.PlanSection.TheVariants as section
use Rattle.plan_format.specs.declared.read.Parts.{Parts}
use Rattle.plan_format.specs.PlanLines.{plan_line}
use Rattle.plan_format.specs.declared.version.PlanStage.{PlanStage}
use Rattle.plan_format.specs.declared.version.PlanStage.TheVariants.{Opened, PastDelay}
use Rattle.plan_format.specs.declared.version.PlanVersion.{PlanVersion}
use Rattle.plan_format.specs.declared.version.PlanVersion.TheVariants.{One}
use Rattle.plan_format.specs.PlanParts.{version_numbered}
use Rattle.plan_format.specs.PlanGrammar.{IsBlank, IsPartialPlan, IsPlanText, ReadsPlan}
use Rattle.plan_format.specs.PlanFaults.{IsFirstPlanFault, IsPlanTextFault}

-- what was read: the section that is reached, the delay, the parts, and the number of the line of each
pub record PlanProgress : Type 0 where
  pub section : PlanSection
  pub delay : ℕ
  pub parts : List Part
  pub lines : List ℕ

-- before the first line
abbrev pub initial : PlanProgress
initial = record { section = section.Header; delay = 0; parts = []; lines = [] }

-- a line in a section, where `read` is what the line is alone
abbrev pub in_section : PlanSection → Result PlanLine FormatKind → Result PlanLine FormatKind
in_section section.Header (Ok line.Blank) = Ok line.Blank
in_section section.Header (Ok (line.Header number)) = Ok (line.Header number)
in_section section.Header (Ok (line.Part part)) = Err NoHeader
in_section section.Header (Ok (line.Delay moments)) = Err NoHeader
in_section section.Header (Ok (line.Between name from low high to)) = Err NoHeader
in_section section.Header (Ok line.End) = Err NoHeader
in_section section.Header (Err kind) = Err NoHeader
in_section (section.Started version stage) (Ok line.Blank) = Ok line.Blank
in_section (section.Started version stage) (Ok (line.Header number)) = Err UnknownWord
in_section (section.Started version stage) (Ok (line.Part part)) = Ok (line.Part part)
in_section (section.Started version stage) (Ok (line.Delay moments)) = Ok (line.Delay moments)
in_section (section.Started version stage) (Ok (line.Between name from low high to)) = Ok (line.Between name from low high to)
in_section (section.Started version stage) (Ok line.End) = Ok line.End
in_section (section.Started version stage) (Err kind) = Err kind

-- the version by which a line in a section is read, and how far the text is
abbrev pub version_in : PlanSection → PlanVersion
version_in section.Header = One
version_in (section.Started version stage) = version

-- how far the text is in a section
abbrev pub stage_in : PlanSection → PlanStage
stage_in section.Header = Opened
stage_in (section.Started version stage) = stage

-- a line in a section, by its words
abbrev pub plan_line_in : PlanSection → List (List ℕ) → Result PlanLine FormatKind
plan_line_in section words = in_section section (plan_line (version_in section) (stage_in section) words)

-- the numbers of a line that was read, as far as they are given in another form: those of a delay and of two bounds
abbrev pub IsLineWithin : PlanLine → Type 0
IsLineWithin (line.Delay moments) = unsigned_abs moments ≤ most_delay
IsLineWithin (line.Between name from low high to) = (length name ≤ most_short) × (within_limit low ≡ true)
IsLineWithin others = Unit {0}

-- the section after a line that is not blank
abbrev pub past_delay : PlanSection → PlanSection
past_delay section.Header = section.Header
past_delay (section.Started version stage) = section.Started version PastDelay

-- with parts more, which this line declares
abbrev pub with_more : PlanProgress → ℕ → List Part → PlanProgress
with_more read number more =
    record read { section = past_delay read.section; parts = read.parts ++ more; lines = read.lines ++ map (λ part. number) more }

-- with one line more, which has this number
abbrev pub advanced_plan : PlanProgress → ℕ → PlanLine → PlanProgress
advanced_plan read number line.Blank = read
advanced_plan read number (line.Header version) = record read { section = section.Started (version_numbered version) Opened }
advanced_plan read number (line.Part part) = with_more read number (part ∷ [])
advanced_plan read number (line.Delay moments) = record read { section = past_delay read.section; delay = unsigned_abs moments }
advanced_plan read number (line.Between name from low high to) = with_more read number (between_parts name from low high to)
advanced_plan read number line.End = read

-- the fault of a text that ends in a section
abbrev pub missing : PlanSection → FormatKind
missing section.Header = NoHeader
missing (section.Started version stage) = NoEnd

-- the answer is what the line says, unless memory ran out
abbrev pub SaysPlanLine : Result PlanLine WordFault → Result PlanLine FormatKind → Type 0
SaysPlanLine (Ok said) read = read ≡ Ok said
SaysPlanLine (Err (word.Kind kind)) read = read ≡ Err kind
SaysPlanLine (Err word.OutOfMemory) read = Unit {0}

-- what lines of a section are, by the grammar: blank ones before the header, or a text with its header
abbrev pub IsPlanReached : PlanSection → List (List ℕ) → ℕ → List Part → List ℕ → Type 0
IsPlanReached section.Header lines delay parts numbers = All IsBlank lines × (delay ≡ 0) × (parts ≡ []) × (numbers ≡ [])
IsPlanReached (section.Started version stage) lines delay parts numbers = IsPartialPlan version stage lines delay parts numbers

-- these lines were read, with which a plan text may begin, and this is what they declare
abbrev pub IsPrefix : List (List ℕ) → PlanProgress → Type 0
IsPrefix lines read = IsPlanReached read.section lines read.delay read.parts read.lines

-- a fault in the line after these
abbrev pub fault_after : List (List ℕ) → FormatKind → FormatFault
fault_after lines kind = record { line = length lines + 1; kind = kind }

-- what one line more brings: its text continues, or has ended, or has its first fault there
abbrev pub PlanLineBrings : List (List ℕ) → List ℕ → Result PlanLine WordFault → PlanProgress → Type 0
PlanLineBrings before next (Ok line.Blank) read = IsPrefix (before ++ next ∷ []) read
PlanLineBrings before next (Ok (line.Header version)) read = IsPrefix (before ++ next ∷ []) read
PlanLineBrings before next (Ok (line.Part part)) read = IsPrefix (before ++ next ∷ []) read
PlanLineBrings before next (Ok (line.Delay moments)) read = IsPrefix (before ++ next ∷ []) read
PlanLineBrings before next (Ok (line.Between name from low high to)) read = IsPrefix (before ++ next ∷ []) read
PlanLineBrings before next (Ok line.End) read = IsPlanText (before ++ next ∷ []) read.delay read.parts read.lines
PlanLineBrings before next (Err (word.Kind kind)) read = (more : List (List ℕ)) → IsFirstPlanFault (before ++ next ∷ more) (fault_after before kind)
PlanLineBrings before next (Err word.OutOfMemory) read = Unit {0}

-- the fault of a text whose line has a fault
abbrev pub plan_fault_at_line : ℕ → WordFault → TextFault
plan_fault_at_line number (word.Kind kind) = text.Format (record { line = number; kind = kind })
plan_fault_at_line number word.OutOfMemory = text.OutOfMemory

-- lines of the bytes were read up to the `end` line, or to the first fault
abbrev pub ReadsLines : List ℕ → PlanProgress → Result ℕ TextFault → Type 0
ReadsLines bytes read (Ok used) = ReadsPlan bytes (record { parts = read.parts; lines = read.lines; used = used; delay = pos read.delay })
ReadsLines bytes read (Err fault) = IsPlanTextFault bytes fault

-- the answer is this one, unless memory ran out
abbrev pub ReadsParts : Result Parts TextFault → Parts → Type 0
ReadsParts (Ok read) said = read ≡ said
ReadsParts (Err (text.Format fault)) said = ⊥
ReadsParts (Err text.OutOfMemory) said = Unit {0}

-- the answer is this fault, unless memory ran out
abbrev pub RefusesText : Result Parts TextFault → FormatFault → Type 0
RefusesText (Ok read) fault = ⊥
RefusesText (Err (text.Format stated)) fault = stated ≡ fault
RefusesText (Err text.OutOfMemory) fault = Unit {0}

-- how many parts are read of so many bytes: a line declares at most two
pub record HasSizes (bytes : List ℕ) (read : Parts) : Type 0 where
  pub numbered : length read.lines ≡ length read.parts
  pub few : length read.parts ≤ 2 * length bytes
  pub within : read.used ≤ length bytes
