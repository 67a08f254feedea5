-- The causes in an input by which a run of a command ends.
use Rattle.std.specs.Prelude.{◌≡◌, ◌⊎◌, ℕ, List}
use Rattle.texts.specs.Lines.{input_lines}
use Rattle.command_engine.specs.Grammars.{Grammar}
use Rattle.command_engine.specs.Inputs.{DeclaresWithinLimits, IsFirstRefusal}
use Rattle.command_engine.specs.declared.endings.End.{End}
use Rattle.command_engine.specs.declared.endings.End.TheVariants as ends
use Rattle.execution_model.specs.Feeds.{Execution}
use Rattle.event_phase.specs.Day.{Preamble, IsRefusedDay, refused_line_number}
use Rattle.event_phase.specs.Due.{IsFedBy}
use Rattle.event_phase.specs.EventAnswers.{event_refusal_line}
use Rattle.event_phase.specs.EventFaults.{HasEventFault, event_refusal}
use Rattle.event_phase.specs.ExecutionPromise.{IsRefusedBy, PutsLast}
use Rattle.common_answers.specs.Faults.{fault_end, fault_line}
use Rattle.common_answers.specs.declared.faults.Fault.{Fault}

-- a run ends by an answer: it is done, or the answer is a refusal
abbrev pub IsAnswer : End → Type 0
IsAnswer ends.Done = Unit {0}
IsAnswer ends.Refused = Unit {0}
IsAnswer ends.Fault = ⊥
IsAnswer ends.Limit = ⊥
IsAnswer ends.EventRefused = ⊥

-- What in an input a run of a command ends by. `refused`: this is the first refusal of the input, by which the run ends so, and which this line reports.
-- `whole`: the input is in the grammar and within the limits, and no part or event of it is refused.
pub record Causes : Type 1 where
  pub refused : (input : List ℕ) → End → (line : List ℕ) → Type 0
  pub whole : (input : List ℕ) → Type 0

-- A run ends by the causes in its input. `refused`: if the input has a first refusal, the run ends as that says. `only`: it ends by an answer, or by a first
-- refusal of the input, whose line is put last. `whole`: if the input is whole, it ends by an answer.
pub record EndsByCause (causes : Causes) (input put : List ℕ) (end : End) : Type 0 where
  pub refused : (other : End) (line : List ℕ) → causes.refused input other line → end ≡ other
  pub only : IsAnswer end ⊎ ((line : List ℕ) × causes.refused input end line × PutsLast line put)
  pub whole : causes.whole input → IsAnswer end

-- by the grammar of its text an input has a first refusal
pub record IsTextRefused {V : Type 0} (grammar : Grammar V Fault) (input : List ℕ) (end : End) (line : List ℕ) : Type 0 where
  pub fault : Fault
  pub first : IsFirstRefusal grammar (input_lines input) fault
  pub ends_so : end ≡ fault_end fault
  pub reported : line ≡ fault_line fault

-- the causes in an input of which one text is read
abbrev pub text_causes : {V : Type 0} → Grammar V Fault → Causes
text_causes {V} grammar = record {
  refused = IsTextRefused grammar;
  whole = λ input. (value : V) × DeclaresWithinLimits grammar (input_lines input) value;
}

-- the lines of events have a fault after those that list a faithful stream
pub record IsEventFaulty (opens : Preamble) (input : List ℕ) (end : End) (line : List ℕ) : Type 0 where
  pub fault : Fault
  pub has : HasEventFault opens (input_lines input) fault
  pub ends_so : end ≡ fault_end fault
  pub reported : line ≡ event_refusal fault

-- a line of events states what no faithful stream does, for this cause
pub record IsEventRefused (opens : Preamble) (input : List ℕ) (end : End) (line : List ℕ) : Type 0 where
  pub refused : IsRefusedDay opens (input_lines input)
  pub execution : Execution
  pub words : List (List ℕ)
  pub fed : IsFedBy refused.net refused.listings execution
  pub why : IsRefusedBy refused.net execution refused.reported words
  pub ends_so : end ≡ ends.EventRefused
  pub reported : line ≡ event_refusal_line (refused_line_number refused) words

-- the lines of events of an execution that the input opens are refused
abbrev pub IsDayRefused : Preamble → (input : List ℕ) → End → (line : List ℕ) → Type 0
IsDayRefused opens input end line = IsEventFaulty opens input end line ⊎ IsEventRefused opens input end line
