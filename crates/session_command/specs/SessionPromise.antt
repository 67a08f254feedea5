-- What `session` promises of what it puts for an input.
use Rattle.std.specs.Prelude.{◌≡◌, ◌⊎◌, ℕ, ◌+◌, List, [], ◌∷◌, ◌++◌, length, Option, Result, Ok, Err}
use Rattle.texts.specs.Lines.{InputLine, input_lines}
use Rattle.texts.specs.Words.{words}
use Rattle.net_model.specs.EditedNetwork.{edited}
use Rattle.net_model.specs.Network.{Plan}
use Rattle.net_model.specs.ShownForm.{shown_form}
use Rattle.net_model.specs.declared.edit.EditFault.{EditFault}
use Rattle.net_model.specs.declared.format.FormatKind.{FormatKind}
use Rattle.net_model.specs.declared.format.FormatKind.TheVariants.{NoEnd}
use Rattle.strategy_model.specs.Control.{IsControllable}
use Rattle.texts.specs.Limits.{most_line}
use Rattle.plan_port.specs.Lines.{Comes, TooLong, TooMuch, coming}
use Rattle.edit_script.specs.EditText.{IsEditLine, IsEditFaultOfWords}
use Rattle.edit_script.specs.declared.step.Step.{Step}
use Rattle.edit_script.specs.declared.step.Step.TheVariants as step
use Rattle.execution_model.specs.Streams.{Listing}
use Rattle.command_engine.specs.Inputs.{AnswersText, DeclaresBy, IsFirstRefusal, texts, capacity_after}
use Rattle.command_engine.specs.Limits.{most_input}
use Rattle.command_engine.specs.declared.endings.End.{End}
use Rattle.command_engine.specs.declared.endings.End.TheVariants as ends
use Rattle.command_contracts.specs.Causes.{Causes, IsTextRefused, IsDayRefused}
use Rattle.event_phase.specs.CompletionOrders.{as_named}
use Rattle.event_phase.specs.Day.{Preamble, IsWholeDay, IsRefusedDay}
use Rattle.event_phase.specs.Due.{AnswersDue}
use Rattle.event_phase.specs.EventAnswers.{due_line}
use Rattle.event_phase.specs.EventFaults.{HasEventFault}
use Rattle.event_phase.specs.ExecutionPromise.{PutsLast, ExecutionPromise}
use Rattle.event_phase.specs.StatedDay.{HasStatedRefusal, HasStatedWholeDay}
use Rattle.common_answers.specs.Faults.{refusing, fault_line, fault_end}
use Rattle.input_texts.specs.PlanInput.{plan_in}
use Rattle.command_contracts.specs.Programs.{Program, Promise, serves}
use Rattle.session_command.specs.SessionAnswers.{ready_line}
use Rattle.session_command.specs.Sessions.{SaysStep, StandsAfter, OpensOn, command_machine, session_start}
use Rattle.session_command.specs.Standing.{Standing}
use Rattle.common_answers.specs.FormatRefusals.{Come}
use Rattle.common_answers.specs.VerdictLines.{controllable_line}
use Rattle.common_answers.specs.declared.faults.Fault.{Fault}
use Rattle.common_answers.specs.declared.faults.Fault.TheVariants.{Format, LineTooLong, InputTooMuch}
use Rattle.input_texts.specs.declared.plan_input.PlanForm.{PlanForm}

-- ---- the lines of a session while its network is edited
-- the network of an edit that is accepted, else the one before it
abbrev pub accepted_or : Plan → Result Plan EditFault → Plan
accepted_or net (Ok more) = more
accepted_or net (Err cause) = net

-- the network as it stands after what a line states
abbrev pub net_after : Plan → Step → Plan
net_after net (step.Edit edit) = accepted_or net (edited net edit)
net_after net step_stated = net

-- after what a line states the network is edited further: it is not `end`, nor `go` if some strategy controls the network
abbrev pub StillEdits : Plan → Step → Type 0
StillEdits net step.End = ⊥
StillEdits net step.Go = ¬ IsControllable net
StillEdits net step_stated = Unit {0}

-- these lines state these steps, one after another; after each the network is edited further, and at last it stands so
abbrev pub StateSteps : Plan → List (List ℕ) → List Step → Plan → Type 0
StateSteps first [] steps net = (steps ≡ []) × (first ≡ net)
StateSteps first (line ∷ lines) steps net =
    (step_stated : Step) × (others : List Step) × IsEditLine step_stated line × StillEdits first step_stated × (steps ≡ step_stated ∷ others)
    × StateSteps (net_after first step_stated) lines others net

-- ---- what is put for them
-- what is put for steps, as the session stands before each: each is answered by the network as it stands
abbrev pub SaysSteps : Standing → List Step → List ℕ → Standing → Type 0
SaysSteps first [] said last = (said ≡ []) × (first ≡ last)
SaysSteps first (step_stated ∷ steps) said last =
    (answer : List ℕ) × (more : List ℕ) × (next : Standing) × SaysStep first step_stated answer × StandsAfter first step_stated next × (said ≡ answer ++ more)
    × SaysSteps next steps more last

-- what is put for a network and steps: that the session is ready, and the answers
pub record SaysAll (first : Plan) (steps : List Step) (put : List ℕ) : Type 0 where
  pub opened : Standing
  pub opens : OpensOn first opened
  pub said : List ℕ
  pub last : Standing
  pub says : SaysSteps opened steps said last
  pub all : put ≡ ready_line ++ said

-- that is put first
abbrev pub SaysFirst : Plan → List Step → List ℕ → Type 0
SaysFirst first steps put = (said : List ℕ) × (more : List ℕ) × SaysAll first steps said × (put ≡ said ++ more)

-- ---- the faults of its lines
-- the fault of what comes next, by the number of its line and the bytes that the input may still have: the input ends, or the line is too long, or the input
-- too much by it, or it states nothing
abbrev pub IsStepFault : (number spare_capacity : ℕ) → List InputLine → Fault → Type 0
IsStepFault number spare_capacity [] fault = fault ≡ Format number NoEnd
IsStepFault number spare_capacity (line ∷ others) fault =
    ((coming most_line spare_capacity line ≡ TooLong) × (fault ≡ LineTooLong number))
    ⊎ (((coming most_line spare_capacity line ≡ TooMuch) × (fault ≡ InputTooMuch number))
    ⊎ ((kind : FormatKind) × (coming most_line spare_capacity line ≡ Comes) × IsEditFaultOfWords (words line.text) kind × (fault ≡ Format number kind)))

-- that the session is ready is put before all else
abbrev pub PutsReady : Plan → List ℕ → End → Type 0
PutsReady net put end = (more : List ℕ) × (put ≡ ready_line ++ more)

-- after what was put before it is put that the network is controllable, and its first due moment
abbrev pub PutsFirstDue : Plan → (before put : List ℕ) → Type 0
PutsFirstDue net before put = (due : Option ℕ) × (more : List ℕ) × AnswersDue net [] due × (put ≡ before ++ (controllable_line ++ (due_line due ++ more)))

module _ (form : PlanForm) where
  -- An input that declares a network, and lines after the plan, which all come within the limits and state these steps; at last the network stands so.
  pub record IsEdited (input : List InputLine) (first net : Plan) (steps : List Step) : Type 0 where
    pub plan : List InputLine
    pub edits : List InputLine
    pub rest : List InputLine
    pub divided : input ≡ plan ++ (edits ++ rest)
    pub declares : DeclaresBy (plan_in form) plan (edits ++ rest) first
    pub come : Come (capacity_after most_input plan) edits
    pub in_steps : StateSteps first (texts edits) steps net

  -- and one more line, which comes too, states this
  pub record IsNext (input : List InputLine) (first net : Plan) (steps : List Step) (step_stated : Step) : Type 0 where
    pub so_far : IsEdited input first net steps
    pub last : InputLine
    pub others : List InputLine
    pub next : so_far.rest ≡ last ∷ others
    pub comes : coming most_line (capacity_after most_input (so_far.plan ++ so_far.edits)) last ≡ Comes
    pub statement : IsEditLine step_stated last.text

  -- ---- what opens an execution
  -- the lines of a plan, those that state steps, and `go` if some strategy controls the network as it stands; what is executed is its shown form
  pub record OpensByGo (used rest : List InputLine) (net : Plan) (before : List ℕ) : Type 0 where
    pub first : Plan
    pub stated : Plan
    pub as_shown : net ≡ shown_form stated
    pub steps : List Step
    pub plan : List InputLine
    pub edits : List InputLine
    pub go : InputLine
    pub divided : used ≡ plan ++ (edits ++ go ∷ [])
    pub declares : DeclaresBy (plan_in form) plan (edits ++ (go ∷ rest)) first
    pub come : Come (capacity_after most_input plan) (edits ++ go ∷ [])
    pub in_steps : StateSteps first (texts edits) steps stated
    pub goes : IsEditLine step.Go go.text
    pub says : SaysAll first steps before

  -- what opens an execution of `session`: the lines up to a `go` at which some strategy controls the network as it stands; the answers to
  -- the lines before it are put before, and points are fed as lines name them
  abbrev pub session_opens : Preamble
  session_opens = record { completion_order = as_named; opens = λ used rest net before. OpensByGo used rest net before }

  -- these lines state this network, as it stands at `go`
  abbrev pub StatesByGo : (used rest : List InputLine) → Plan → Type 0
  StatesByGo used rest net = (before : List ℕ) × (opens : OpensByGo used rest (shown_form net) before) × (opens.stated ≡ net)

  -- the lines of a session have a fault after those that state steps
  pub record HasStepFault (input : List InputLine) (fault : Fault) : Type 0 where
    pub first : Plan
    pub net : Plan
    pub steps : List Step
    pub so_far : IsEdited input first net steps
    pub next : IsStepFault (length (so_far.plan ++ so_far.edits) + 1) (capacity_after most_input (so_far.plan ++ so_far.edits)) so_far.rest fault

  -- ---- the promise
  -- the input is a session up to `end`
  abbrev pub IsWholeSession : List InputLine → Type 0
  IsWholeSession input = (first : Plan) × (net : Plan) × (steps : List Step) × IsNext input first net steps step.End

  -- How a session ends, of the network as it stands at `go`, with its delay. `completes`: as done only at `end`, or if the lines of events list all that is
  -- shown of the earliest schedule of a situation, which satisfies this network. `refused`: by a refused event only if a line states what is shown of no
  -- schedule of it that shows what the lines before it state.
  pub record EndsAsStated (input : List InputLine) (end : End) : Type 0 where
    pub completes : end ≡ ends.Done → IsWholeSession input ⊎ HasStatedWholeDay session_opens StatesByGo input
    pub refused : end ≡ ends.EventRefused → HasStatedRefusal session_opens StatesByGo input

  -- What `session` promises. `opens`: it puts that the session is ready for the network that the input declares, or the first refusal of the input. `says`:
  -- each line is answered by the network as it stands after the accepted edits before it, whatever comes after. `closes`: at `end` it ends as done, and has put
  -- no more than these answers. `begins`: at `go`, if some strategy controls the network as it stands, it puts that it is controllable, and the first due
  -- moment, after these answers. `execution`: what is promised of an execution that `go` opens, of the network as it stands. `faulty`: it ends by a fault, with
  -- its line, if its lines have one. `completes`: it ends as done only at `end`, or after a faithful stream of a controllable network that is done. `refused`:
  -- it ends by a refused event only if a line of events states what no faithful stream does. `faults`: it ends by a fault only if the input has a first
  -- refusal, or its lines a fault. `never_refuted`: in no other way does it end. `stated`: `completes` and `refused` of the network as it stands at `go`.
  pub record SessionPromise (input put : List ℕ) (end : End) : Type 0 where
    pub opens : AnswersText (plan_in form) refusing PutsReady input put end
    pub says : (first net : Plan) (steps : List Step) → IsEdited (input_lines input) first net steps → SaysFirst first steps put
    pub closes : (first net : Plan) (steps : List Step) → IsNext (input_lines input) first net steps step.End → SaysAll first steps put × (end ≡ ends.Done)
    pub begins : (used rest : List InputLine) (net : Plan) (before : List ℕ) → input_lines input ≡ used ++ rest → OpensByGo used rest net before
        → IsControllable net → PutsFirstDue net before put
    pub execution : ExecutionPromise session_opens (input_lines input) put end
    pub faulty : (fault : Fault) → HasStepFault (input_lines input) fault → PutsLast (fault_line fault) put × (end ≡ fault_end fault)
    pub completes : end ≡ ends.Done
        → IsWholeSession (input_lines input) ⊎ ((net : Plan) × (listings : List Listing) × IsWholeDay session_opens (input_lines input) net listings)
    pub refused : end ≡ ends.EventRefused → IsRefusedDay session_opens (input_lines input)
    pub faults : (end ≡ ends.Fault) ⊎ (end ≡ ends.Limit)
        → (fault : Fault) × (IsFirstRefusal (plan_in form) (input_lines input) fault
        ⊎ (HasStepFault (input_lines input) fault ⊎ HasEventFault session_opens (input_lines input) fault))
    pub never_refuted : ¬ (end ≡ ends.Refused)
    pub stated : EndsAsStated (input_lines input) end

  -- What may have been put if memory was wanted: the answers to whole lines, none of which began an execution.
  pub record SaysWhole (input put : List ℕ) : Type 0 where
    pub first : Plan
    pub net : Plan
    pub steps : List Step
    pub edited_so : IsEdited (input_lines input) first net steps
    pub line : InputLine
    pub others : List InputLine
    pub whole : edited_so.rest ≡ line ∷ others
    pub says : SaysAll first steps put

-- the lines of a session have a fault after those that state steps
pub record IsStepRefused (form : PlanForm) (input : List ℕ) (end : End) (line : List ℕ) : Type 0 where
  pub fault : Fault
  pub has : HasStepFault form (input_lines input) fault
  pub ends_so : end ≡ fault_end fault
  pub reported : line ≡ fault_line fault

-- What in an input a run of `session` ends by: the first refusal of its plan, of its lines, or of its lines of events. It is whole if it is a session up to
-- `end`, or lists a faithful stream that is done after a `go`. A refused edit is no cause.
abbrev pub session_causes : PlanForm → Causes
session_causes form = record {
  refused = λ input end line. IsTextRefused (plan_in form) input end line
      ⊎ (IsStepRefused form input end line ⊎ IsDayRefused (session_opens form) input end line);
  whole = λ input. IsWholeSession form (input_lines input) ⊎ ((net : Plan) × (listings : List Listing)
      × IsWholeDay (session_opens form) (input_lines input) net listings);
}

-- the plan is given in this form
abbrev pub session_promise : PlanForm → Promise
session_promise form = record { ended = SessionPromise form; without_memory = SaysWhole form; causes = session_causes form }

-- the program of `session`
abbrev pub session_program : PlanForm → Program
session_program form = serves command_machine (session_start form) (session_promise form)
