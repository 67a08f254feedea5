-- The first fault of a text that is no plan text.
use Rattle.std.specs.Prelude.{◌≡◌, ◌≢◌, ◌⊎◌, ℕ, ◌+◌, false, List, [], ◌∷◌, ◌++◌, length}
use Rattle.std.specs.List.{All}
use Rattle.texts.specs.Words.{words, are_passed_over}
use Rattle.texts.specs.Lines.{lines}
use Rattle.net_model.specs.Places.{places_of, DepartsFrom}
use Rattle.net_model.specs.declared.format.FormatFault.{FormatFault}
use Rattle.net_model.specs.declared.format.TextFault.{TextFault}
use Rattle.net_model.specs.declared.format.TextFault.TheVariants as text
use Rattle.net_model.specs.declared.format.WordFault.{WordFault}
use Rattle.net_model.specs.declared.format.WordFault.TheVariants as word
use Rattle.net_model.specs.declared.format.FormatKind.{FormatKind}
use Rattle.net_model.specs.declared.format.FormatKind.TheVariants.{NoHeader, NoEnd}
use Rattle.net_model.specs.declared.part.Part.{Part}
use Rattle.plan_format.specs.declared.version.PlanStage.{PlanStage}
use Rattle.plan_format.specs.declared.version.PlanStage.TheVariants.{Opened}
use Rattle.plan_format.specs.declared.version.PlanVersion.{PlanVersion}
use Rattle.plan_format.specs.PlanForms.{form_after}
use Rattle.plan_format.specs.PlanParts.{plan_header_words}
use Rattle.plan_format.specs.PlanGrammar.{IsBlank, IsPartialPlan, IsPlanText}

-- the first departure of the words of a line from the forms of the lines after the header of a version
abbrev pub Departs : PlanVersion → PlanStage → List (List ℕ) → FormatKind → Type 0
Departs version stage [] kind = ⊥
Departs version stage (first ∷ others) kind = DepartsFrom (places_of (form_after version stage first)) others kind

-- the fault of a line that is read alone: it is no blank line and no header, and departs from the forms of the other lines
pub record IsFaultAlone (version : PlanVersion) (words : List (List ℕ)) (kind : FormatKind) : Type 0 where
  pub filled : are_passed_over words ≡ false
  pub no_header : (said : PlanVersion) → words ≢ plan_header_words said
  pub departs : Departs version Opened words kind

-- the fault of a line that is read alone, which takes no memory
abbrev pub IsFaultOfLine : PlanVersion → List ℕ → WordFault → Type 0
IsFaultOfLine version line (word.Kind kind) = IsFaultAlone version (words line) kind
IsFaultOfLine version line word.OutOfMemory = ⊥

-- a plan text may begin with these lines
abbrev pub CanBecomePlan : List (List ℕ) → Type 0
CanBecomePlan text = (more : List (List ℕ)) × (delay : ℕ) × (parts : List Part) × (numbers : List ℕ) × IsPlanText (text ++ more) delay parts numbers

-- a plan text may begin with these lines and one more
abbrev pub PlanGoesOn : List (List ℕ) → Type 0
PlanGoesOn text = (next : List ℕ) × CanBecomePlan (text ++ next ∷ [])

-- no plan text begins with these lines and the first of the others, if there is one
abbrev pub ExcludesPlan : List (List ℕ) → List (List ℕ) → Type 0
ExcludesPlan before [] = Unit {0}
ExcludesPlan before (next ∷ others) = CanBecomePlan (before ++ next ∷ []) → ⊥

-- the fault of what comes after lines with the header of a version: there is no line, or the next one departs from its form
abbrev pub StopsAfterHeader : PlanVersion → PlanStage → List (List ℕ) → FormatKind → Type 0
StopsAfterHeader version stage [] kind = kind ≡ NoEnd
StopsAfterHeader version stage (next ∷ others) kind = Departs version stage (words next) kind

-- the fault of what comes after the first lines: the header is missing, or has come and no `end` line follows
abbrev pub Stops : List (List ℕ) → List (List ℕ) → FormatKind → Type 0
Stops before rest kind =
    (All IsBlank before × (kind ≡ NoHeader))
    ⊎ ((version : PlanVersion) × (stage : PlanStage) × (delay : ℕ) × (parts : List Part) × (numbers : List ℕ)
    × IsPartialPlan version stage before delay parts numbers × StopsAfterHeader version stage rest kind)

-- the first fault of a text: a plan text may continue after the lines before it, and not with its line
pub record IsFirstPlanFault (text : List (List ℕ)) (fault : FormatFault) : Type 0 where
  pub before : List (List ℕ)
  pub rest : List (List ℕ)
  pub whole : text ≡ before ++ rest
  pub at_line : fault.line ≡ length before + 1
  pub possible : PlanGoesOn before
  pub refused : ExcludesPlan before rest
  pub stops : Stops before rest fault.kind

-- a fault of the bytes, or want of memory
abbrev pub IsPlanTextFault : List ℕ → TextFault → Type 0
IsPlanTextFault bytes (text.Format fault) = IsFirstPlanFault (lines bytes) fault
IsPlanTextFault bytes text.OutOfMemory = Unit {0}
