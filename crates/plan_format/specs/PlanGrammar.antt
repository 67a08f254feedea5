-- The grammar of plan texts.
use Rattle.std.specs.Prelude.{◌≡◌, ◌⊎◌, ℕ, ℤ, pos, ◌≤◌, ◌+◌, true, List, [], ◌∷◌, ◌++◌, map, length, IsTrue}
use Rattle.std.specs.List.{All}
use Rattle.texts.specs.Words.{words, are_passed_over}
use Rattle.texts.specs.Lines.{lines, size_of_lines}
use Rattle.net_model.specs.Between.{between_parts}
use Rattle.net_model.specs.Limits.{most_delay, within_limit}
use Rattle.net_model.specs.Names.{is_name, is_short_name}
use Rattle.net_model.specs.declared.part.Part.{Part}
use Rattle.plan_format.specs.declared.plan_line.PlanLine.{PlanLine}
use Rattle.plan_format.specs.declared.plan_line.PlanLine.TheVariants as line
use Rattle.plan_format.specs.declared.read.Parts.{Parts}
use Rattle.plan_format.specs.declared.version.PlanStage.{PlanStage}
use Rattle.plan_format.specs.declared.version.PlanStage.TheVariants.{Opened, PastDelay}
use Rattle.plan_format.specs.declared.version.PlanVersion.{PlanVersion}
use Rattle.plan_format.specs.declared.version.PlanVersion.TheVariants.{Two}
use Rattle.net_model.specs.NetworkParts.{IsDeclarable}
use Rattle.plan_format.specs.PlanParts.{part_words, between_words, delay_words, plan_header_words, end_words, version_number}

-- a line that is passed over, in every version
abbrev pub IsBlank : List ℕ → Type 0
IsBlank text = are_passed_over (words text) ≡ true

-- two bounds that can be declared together: their names are names, and short, and their numbers within their limit
abbrev pub AreDeclarable : (name from : List ℕ) → (low high : ℤ) → (to : List ℕ) → Type 0
AreDeclarable name from low high to =
    IsTrue (is_short_name name) × IsTrue (is_name from) × (within_limit low ≡ true) × (within_limit high ≡ true) × IsTrue (is_name to)

-- what the words of a line of each kind are in a text of a version; the lines of a delay and of two bounds are of version 2
abbrev pub AreWordsOfPlanLine : PlanVersion → PlanLine → List (List ℕ) → Type 0
AreWordsOfPlanLine version line.Blank words = are_passed_over words ≡ true
AreWordsOfPlanLine version (line.Header number) words = (said : PlanVersion) × (number ≡ version_number said) × (words ≡ plan_header_words said)
AreWordsOfPlanLine version (line.Part part) words = (words ≡ part_words part) × IsDeclarable part
AreWordsOfPlanLine version (line.Delay moments) words = (version ≡ Two) × (delay : ℕ) × (moments ≡ pos delay) × (words ≡ delay_words delay)
    × (delay ≤ most_delay)
AreWordsOfPlanLine version (line.Between name from low high to) words = (version ≡ Two) × (words ≡ between_words name from low high to)
    × AreDeclarable name from low high to
AreWordsOfPlanLine version line.End words = words ≡ end_words

-- a line of a kind
abbrev pub IsPlanLine : PlanVersion → PlanLine → List ℕ → Type 0
IsPlanLine version kind text = AreWordsOfPlanLine version kind (words text)

-- a line that declares parts: one part, or two bounds
abbrev pub Declares : PlanVersion → List ℕ → List Part → Type 0
Declares version text parts =
    ((part : Part) × (parts ≡ part ∷ []) × IsPlanLine version (line.Part part) text)
    ⊎ ((name : List ℕ) × (from : List ℕ) × (low : ℤ) × (high : ℤ) × (to : List ℕ) × (parts ≡ between_parts name from low high to)
    × IsPlanLine version (line.Between name from low high to) text)

-- The lines of a text of a version after its header, how far it is, its delay, the parts that it declares, in their order, and the number of the line of each:
-- blank lines and the header, and after them lines that are blank or declare parts. The first of these that is not blank may state the delay, which is 0 if
-- none does.
pub data IsPartialPlan (version : PlanVersion) : PlanStage → List (List ℕ) → ℕ → List Part → List ℕ → Type 0 where
  header : (blanks : List (List ℕ)) (text : List ℕ) → All IsBlank blanks → words text ≡ plan_header_words version
      → IsPartialPlan version Opened (blanks ++ text ∷ []) 0 [] []
  blank : (stage : PlanStage) (before : List (List ℕ)) (text : List ℕ) (delay : ℕ) (parts : List Part) (numbers : List ℕ)
      → IsPartialPlan version stage before delay parts numbers → IsBlank text → IsPartialPlan version stage (before ++ text ∷ []) delay parts numbers
  delays : (before : List (List ℕ)) (text : List ℕ) (was delay : ℕ) (parts : List Part) (numbers : List ℕ)
      → IsPartialPlan version Opened before was parts numbers → IsPlanLine version (line.Delay (pos delay)) text
      → IsPartialPlan version PastDelay (before ++ text ∷ []) delay parts numbers
  declares : (stage : PlanStage) (before : List (List ℕ)) (text : List ℕ) (delay : ℕ) (parts more : List Part) (numbers : List ℕ)
      → IsPartialPlan version stage before delay parts numbers → Declares version text more
      → IsPartialPlan version PastDelay (before ++ text ∷ []) delay (parts ++ more) (numbers ++ map (λ part. length before + 1) more)

-- the lines of a plan text of some version: one with its header, and the `end` line
pub record IsPlanText (text : List (List ℕ)) (delay : ℕ) (parts : List Part) (numbers : List ℕ) : Type 0 where
  pub version : PlanVersion
  pub stage : PlanStage
  pub initial : List (List ℕ)
  pub last : List ℕ
  pub whole : text ≡ initial ++ last ∷ []
  pub begins : IsPartialPlan version stage initial delay parts numbers
  pub ends : IsPlanLine version line.End last

-- the first lines of the bytes are a plan text, and this is read of it
pub record ReadsPlan (bytes : List ℕ) (read : Parts) : Type 0 where
  pub text : List (List ℕ)
  pub after : List (List ℕ)
  pub delay : ℕ
  pub split : lines bytes ≡ text ++ after
  pub plan : IsPlanText text delay read.parts read.lines
  pub used : read.used ≡ size_of_lines (length text) bytes
  pub stated : read.delay ≡ pos delay
