-- The network that the lines of a text declare.
use Rattle.std.specs.Prelude.{◌≡◌, ℕ, ◌+◌, List, ◌++◌, Some, None, slice_get, Result, Ok, Err, codes}
use Rattle.std.specs.Fmt.{decimal}
use Rattle.net_model.specs.Network.{Plan}
use Rattle.net_model.specs.BuiltNetwork.{built, declared_net, place_of, build_fault_word}
use Rattle.net_model.specs.declared.fault.BuildFault.{BuildFault}
use Rattle.net_model.specs.declared.format.FormatFault.{FormatFault}
use Rattle.net_model.specs.declared.part.Part.{Part}
use Rattle.plan_format.specs.declared.declaration.DeclarationFault.{DeclarationFault}
use Rattle.plan_format.specs.declared.declaration.DeclarationFault.TheVariants as declaration
use Rattle.plan_format.specs.PlanFaults.{IsFirstPlanFault}
use Rattle.plan_format.specs.PlanGrammar.{IsPlanText}

-- how a fault is printed
abbrev pub declaration_fault_text : DeclarationFault → List ℕ
declaration_fault_text (declaration.Refused line fault) = build_fault_word fault ++ codes " in line " ++ decimal line
declaration_fault_text declaration.OutOfMemory = codes "out of memory"

-- the lines begin with a plan text that declares the network, and the rest comes after its `end` line
pub record DeclaresNetwork (lines : List (List ℕ)) (net : Plan) (rest : List (List ℕ)) : Type 0 where
  pub plan : List (List ℕ)
  pub delay : ℕ
  pub parts : List Part
  pub numbers : List ℕ
  pub whole : lines ≡ plan ++ rest
  pub is_plan : IsPlanText plan delay parts numbers
  pub builds : declared_net delay parts ≡ Ok net

-- of these parts, each with the number of its line, the first one that is refused is in this line, for this cause
pub record IsRefusedPart (parts : List Part) (numbers : List ℕ) (line : ℕ) (fault : BuildFault) : Type 0 where
  pub index : ℕ
  pub refused : built parts ≡ Err fault
  pub place : place_of fault ≡ Some (index + 1)
  pub at_line : slice_get numbers index ≡ Some line

-- a fault is stated with the number of the line of its part, unless it has no place
abbrev pub StatesLine : DeclarationFault → List ℕ → BuildFault → Type 0
StatesLine (declaration.Refused line stated) numbers fault = (stated ≡ fault) × (index : ℕ) × (place_of fault ≡ Some (index + 1))
    × (slice_get numbers index ≡ Some line)
StatesLine declaration.OutOfMemory numbers fault = place_of fault ≡ None

-- the lines begin with a plan text of which a part is refused: the first such part is in this line
pub record RefusesPart (lines : List (List ℕ)) (line : ℕ) (fault : BuildFault) : Type 0 where
  pub plan : List (List ℕ)
  pub rest : List (List ℕ)
  pub delay : ℕ
  pub parts : List Part
  pub numbers : List ℕ
  pub whole : lines ≡ plan ++ rest
  pub is_plan : IsPlanText plan delay parts numbers
  pub part : IsRefusedPart parts numbers line fault

-- the answer is what a delay and the parts declare, unless memory ran out
abbrev pub BuildsParts : Result Plan DeclarationFault → ℕ → List Part → List ℕ → Type 0
BuildsParts (Ok net) delay parts numbers = declared_net delay parts ≡ Ok net
BuildsParts (Err (declaration.Refused line fault)) delay parts numbers = IsRefusedPart parts numbers line fault
BuildsParts (Err declaration.OutOfMemory) delay parts numbers = Unit {0}

-- the answer is what the lines declare, unless memory ran out
abbrev pub AnswersDeclaration : Result Plan DeclarationFault → List (List ℕ) → List (List ℕ) → Type 0
AnswersDeclaration (Ok net) lines rest = DeclaresNetwork lines net rest
AnswersDeclaration (Err (declaration.Refused line fault)) lines rest = RefusesPart lines line fault
AnswersDeclaration (Err declaration.OutOfMemory) lines rest = Unit {0}

-- what the lines of a text give: a network and the lines after it, or the first fault of a line, or the first part that is
-- refused, with its line
pub data Reading : Type 0 where
  network : Plan → List (List ℕ) → Reading
  faulty : FormatFault → Reading
  refused : ℕ → BuildFault → Reading

-- lines give a reading
abbrev pub IsReading : List (List ℕ) → Reading → Type 0
IsReading lines (network net rest) = DeclaresNetwork lines net rest
IsReading lines (faulty fault) = IsFirstPlanFault lines fault
IsReading lines (refused line fault) = RefusesPart lines line fault

-- the lines of a text give one thing at most
abbrev pub GiveOneReading : Type 0
GiveOneReading = (lines : List (List ℕ)) (reading other : Reading) → IsReading lines reading → IsReading lines other → reading ≡ other
