-- What in an input a run of `fleet` ends by: a fault of its text, a line after `go` that names no plan, an input that ends too soon or passes a
-- limit, or `end`. What a plan refuses of its own lines ends no run.
use Rattle.std.specs.Prelude.{◌≡◌, ◌⊎◌, ℕ, ◌+◌, true, false, List, [], ◌∷◌, ◌++◌, length, map, Some, slice_get}
use Rattle.texts.specs.Limits.{most_line}
use Rattle.texts.specs.Lines.{InputLine, input_lines}
use Rattle.texts.specs.Words.{words, is_remark}
use Rattle.net_model.specs.declared.format.FormatKind.TheVariants.{NoEnd, UnknownName}
use Rattle.plan_port.specs.Lines.{Comes, TooLong, TooMuch, coming}
use Rattle.command_engine.specs.Inputs.{DeclaresBy, texts, capacity_after}
use Rattle.command_engine.specs.Limits.{most_input}
use Rattle.command_engine.specs.declared.endings.End.{End}
use Rattle.command_contracts.specs.Causes.{Causes, IsTextRefused}
use Rattle.common_answers.specs.Faults.{fault_end, fault_line}
use Rattle.common_answers.specs.FormatRefusals.{Come}
use Rattle.common_answers.specs.declared.faults.Fault.{Fault}
use Rattle.common_answers.specs.declared.faults.Fault.TheVariants.{Format, LineTooLong, InputTooMuch}
use Rattle.multiplexed_commands.specs.Merged.{closes}
use Rattle.fleet_command.specs.FleetHeader.{Nothing}
use Rattle.fleet_command.specs.FleetText.{Plans, fleet_in}

-- the names of plans
abbrev pub names_of : Plans → List (List ℕ)
names_of plans = map (λ plan. plan.0) plans

-- a word is one of these names
abbrev pub IsOne : List (List ℕ) → List ℕ → Type 0
IsOne names name = (place : ℕ) × (slice_get names place ≡ Some name)

-- the words of a line are passed over, or the first of them is one of these names
abbrev pub NamesOne : List (List ℕ) → List (List ℕ) → Type 0
NamesOne names [] = Unit {0}
NamesOne names (first ∷ others) = (is_remark first ≡ true) ⊎ ((closes (first ∷ others) ≡ false) × IsOne names first)

abbrev pub NameAll : List (List ℕ) → List (List ℕ) → Type 0
NameAll names [] = Unit {0}
NameAll names (line ∷ lines) = NamesOne names (words line) × NameAll names lines

-- the words of a line begin with none of these names
abbrev pub NamesNoPlan : List (List ℕ) → List (List ℕ) → Type 0
NamesNoPlan names [] = ⊥
NamesNoPlan names (first ∷ others) = (is_remark first ≡ false) × (closes (first ∷ others) ≡ false) × ¬ IsOne names first

-- the fault of what comes next after `go`, by its number and the bytes that the input may still have
abbrev pub IsLineFault : List (List ℕ) → (number spare_capacity : ℕ) → List InputLine → Fault → Type 0
IsLineFault names number spare_capacity [] fault = fault ≡ Format number NoEnd
IsLineFault names number spare_capacity (line ∷ others) fault =
    ((coming most_line spare_capacity line ≡ TooLong) × (fault ≡ LineTooLong number))
    ⊎ (((coming most_line spare_capacity line ≡ TooMuch) × (fault ≡ InputTooMuch number))
    ⊎ ((coming most_line spare_capacity line ≡ Comes) × NamesNoPlan names (words line.text) × (fault ≡ Format number UnknownName)))

-- An input that declares plans, and lines after `go` which all come within the limits, and of which each names a plan or is passed over.
pub record IsServed (input : List InputLine) (plans : Plans) : Type 0 where
  pub text : Nothing
  pub used : List InputLine
  pub lines : List InputLine
  pub rest : List InputLine
  pub divided : input ≡ used ++ (lines ++ rest)
  pub declares : DeclaresBy fleet_in used (lines ++ rest) (text, plans)
  pub come : Come (capacity_after most_input used) lines
  pub named : NameAll (names_of plans) (texts lines)

-- how many lines there are up to then, and the bytes that the input may still have
abbrev pub number_then : {input : List InputLine} {plans : Plans} → IsServed input plans → ℕ
number_then served = length served.used + length served.lines

abbrev pub capacity_then : {input : List InputLine} {plans : Plans} → IsServed input plans → ℕ
capacity_then served = capacity_after (capacity_after most_input served.used) served.lines

-- and then a line whose only word is `end`: the input is whole
pub record IsClosedInput (input : List InputLine) : Type 0 where
  pub plans : Plans
  pub served : IsServed input plans
  pub last : InputLine
  pub others : List InputLine
  pub next : served.rest ≡ last ∷ others
  pub comes : coming most_line (capacity_then served) last ≡ Comes
  pub ends : closes (words last.text) ≡ true

-- or a fault, with the number of its line
pub record HasLineFault (input : List InputLine) (fault : Fault) : Type 0 where
  pub plans : Plans
  pub served : IsServed input plans
  pub next : IsLineFault (names_of plans) (number_then served + 1) (capacity_then served) served.rest fault

-- the lines after `go` have a fault
pub record IsLineRefused (input : List ℕ) (end : End) (line : List ℕ) : Type 0 where
  pub fault : Fault
  pub has : HasLineFault (input_lines input) fault
  pub ends_so : end ≡ fault_end fault
  pub reported : line ≡ fault_line fault

-- the first refusal of the text, or that of the lines after it; parts of plans and events may be refused in a whole input
abbrev pub fleet_causes : Causes
fleet_causes = record {
  refused = λ input end line. IsTextRefused fleet_in input end line ⊎ IsLineRefused input end line;
  whole = λ input. IsClosedInput (input_lines input);
}
