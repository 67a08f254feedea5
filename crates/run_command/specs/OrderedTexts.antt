-- The text in which the names of each line of events stand in the order of the numbers of their points.
use Rattle.std.specs.Prelude.{◌≡◌, ◌⊎◌, ◌↔◌, ℕ, List, [], ◌∷◌, ◌++◌, length}
use Rattle.texts.specs.Lines.{InputLine, input_lines}
use Rattle.net_model.specs.Network.{Plan}
use Rattle.net_model.specs.ShownForm.{shown_form}
use Rattle.net_model.specs.declared.ids.PointId.{PointId}
use Rattle.desk_feeding.specs.Ordered.{IsInOrder}
use Rattle.event_stream.specs.EventText.{completed, IsEventLine}
use Rattle.command_engine.specs.Inputs.{DeclaresBy}
use Rattle.input_texts.specs.PlanInput.{plan_in}
use Rattle.command_contracts.specs.Programs.{Defines}
use Rattle.command_contracts.specs.declared.status.Status.{Status}
use Rattle.run_command.specs.RunPromise.{run_program}
use Rattle.run_command.specs.RunCommand.{with_feeders, without_feeders}
use Rattle.input_texts.specs.declared.plan_input.PlanForm.{PlanForm}

-- both lines state completions at one moment, and the second the points of the first in the order of their numbers
pub record ReportsInOrder (net : Plan) (line ordered : List ℕ) : Type 0 where
  pub moment : ℕ
  pub named : List PointId
  pub points : List PointId
  pub statement : IsEventLine net (completed moment named) line
  pub order : IsInOrder named points
  pub states_so : IsEventLine net (completed moment points) ordered

-- the line names no points: it states something else, or has a fault
abbrev pub NamesNoPoints : Plan → (line : List ℕ) → Type 0
NamesNoPoints net line = (moment : ℕ) (named : List PointId) → ¬ IsEventLine net (completed moment named) line

-- A line with its names in the order of the numbers, which has as many bytes, and its end where the other has it. A line that names no points
-- stays as it is.
pub record IsOrderedLine (net : Plan) (line ordered : InputLine) : Type 0 where
  pub text : ReportsInOrder net line.text ordered.text ⊎ (NamesNoPoints net line.text × (ordered.text ≡ line.text))
  pub size : length ordered.text ≡ length line.text
  pub end_stays : ordered.ended ≡ line.ended

-- so are all of these lines
abbrev pub AreOrderedLines : Plan → (events ordered : List InputLine) → Type 0
AreOrderedLines net [] [] = Unit {0}
AreOrderedLines net [] (line ∷ ordered) = ⊥
AreOrderedLines net (line ∷ events) [] = ⊥
AreOrderedLines net (line ∷ events) (other ∷ ordered) = IsOrderedLine net line other × AreOrderedLines net events ordered

-- Both inputs begin with the same lines, which declare a network of the first, and come within the limits, and so of the second; after them the
-- lines of the second are those of the first with their names in order. The names are those of the network as it is executed.
pub record IsOrderedAfterPlan (form : PlanForm) (input ordered : List ℕ) : Type 0 where
  pub net : Plan
  pub plan : List InputLine
  pub events : List InputLine
  pub others : List InputLine
  pub divided : input_lines input ≡ plan ++ events
  pub divided_so : input_lines ordered ≡ plan ++ others
  pub declares : DeclaresBy (plan_in form) plan events net
  pub lines : AreOrderedLines (shown_form net) events others

-- no first lines of an input declare a network
abbrev pub DeclaresNone : PlanForm → (input : List ℕ) → Type 0
DeclaresNone form input = (net : Plan) (plan rest : List InputLine) → input_lines input ≡ plan ++ rest → ¬ DeclaresBy (plan_in form) plan rest net

-- an input with the names of its lines of events in order; one that declares no network stays as it is
abbrev pub IsOrderedInput : PlanForm → (input ordered : List ℕ) → Type 0
IsOrderedInput form input ordered = IsOrderedAfterPlan form input ordered ⊎ (DeclaresNone form input × (ordered ≡ input))

-- with feeders, of whatever number, `run` puts for an input what it puts without them for the input in order, and ends so
abbrev pub FeedersPutTheLinesInOrder : Type 0
FeedersPutTheLinesInOrder =
    (form : PlanForm) (input ordered : List ℕ) → IsOrderedInput form input ordered → (put : List ℕ) (status : Status)
    → Defines (run_program (with_feeders form)) input put status ↔ Defines (run_program (without_feeders form)) ordered put status
