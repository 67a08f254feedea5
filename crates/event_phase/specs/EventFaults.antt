-- The first fault of the lines of events of an input, with its line.
use Rattle.std.specs.Prelude.{◌≡◌, ◌⊎◌, ℕ, List, [], ◌∷◌}
use Rattle.texts.specs.Lines.{InputLine}
use Rattle.net_model.specs.Network.{Plan}
use Rattle.net_model.specs.declared.format.FormatKind.{FormatKind}
use Rattle.net_model.specs.declared.format.FormatKind.TheVariants.{NoEnd}
use Rattle.strategy_model.specs.Control.{IsControllable}
use Rattle.texts.specs.Limits.{most_line}
use Rattle.plan_port.specs.Lines.{Comes, TooLong, TooMuch, coming}
use Rattle.event_stream.specs.EventText.{IsEventFault}
use Rattle.execution_model.specs.Laws.{going_on}
use Rattle.execution_model.specs.Streams.{Listing, IsFaithful}
use Rattle.event_phase.specs.Day.{Preamble, IsUnderway, next_number, capacity_then}
use Rattle.event_phase.specs.EventAnswers.{event_fault_line}
use Rattle.common_answers.specs.Faults.{fault_line}
use Rattle.common_answers.specs.declared.faults.Fault.{Fault}
use Rattle.common_answers.specs.declared.faults.Fault.TheVariants.{Format, LineTooLong, InputTooMuch}

-- the line that is put for a fault of lines of events
abbrev pub event_refusal : Fault → List ℕ
event_refusal (Format number kind) = event_fault_line number kind
event_refusal fault = fault_line fault

-- the fault of what comes next, by the number of its line and the bytes that the input may still have: the input ends, or the line is too
-- long, or the input too much by it, or it is no line of events
abbrev pub IsNextFault : Plan → (number spare_capacity : ℕ) → List InputLine → Fault → Type 0
IsNextFault net number spare_capacity [] fault = fault ≡ Format number NoEnd
IsNextFault net number spare_capacity (line ∷ others) fault =
    ((coming most_line spare_capacity line ≡ TooLong) × (fault ≡ LineTooLong number))
    ⊎ (((coming most_line spare_capacity line ≡ TooMuch) × (fault ≡ InputTooMuch number))
    ⊎ ((kind : FormatKind) × (coming most_line spare_capacity line ≡ Comes) × IsEventFault net line.text kind × (fault ≡ Format number kind)))

-- the lines of events have a fault after those that list a faithful stream of a controllable network
pub record HasEventFault (opens : Preamble) (input : List InputLine) (fault : Fault) : Type 0 where
  pub net : Plan
  pub listings : List Listing
  pub underway : IsUnderway opens input net listings
  pub controllable : IsControllable net
  pub faithful : IsFaithful net (going_on listings)
  pub next : IsNextFault net (next_number underway.lines) (capacity_then underway.lines) underway.lines.rest fault
