-- What `fleet` promises: of each plan what `run` promises of that plan and its own lines alone.
use Rattle.std.specs.Prelude.{◌≡◌, ◌⊎◌, ℕ, ◌+◌, List, [], ◌∷◌, ◌++◌, Some, length, slice_get}
use Rattle.std.specs.List.{All}
use Rattle.texts.specs.Lines.{InputLine, input_lines, whole_lines}
use Rattle.texts.specs.PrintedLines.{printed_line}
use Rattle.texts.specs.Words.{words}
use Rattle.net_model.specs.Network.{Plan}
use Rattle.net_model.specs.ShownForm.{shown_form}
use Rattle.net_model.specs.declared.format.FormatKind.TheVariants.{NoEnd}
use Rattle.strategy_model.specs.Control.{IsControllable}
use Rattle.command_engine.specs.Inputs.{AnswersText, IsFirstRefusal}
use Rattle.command_engine.specs.Limits.{most_input}
use Rattle.command_engine.specs.Phases.{FollowsOutcome}
use Rattle.command_engine.specs.Readers.{Given}
use Rattle.command_engine.specs.declared.endings.End.{End}
use Rattle.command_engine.specs.declared.endings.End.TheVariants as ends
use Rattle.multiplexed_commands.specs.Starts.{Start, starts_put}
use Rattle.multiplexed_commands.specs.NamedLines.{named, of_name, IsOfWholeLines}
use Rattle.multiplexed_commands.specs.Projection.{own_lines}
use Rattle.multiplexed_commands.specs.Runs.{as_input, idles}
use Rattle.event_phase.specs.EventRuns.{EventRun}
use Rattle.event_phase.specs.Day.{Preamble}
use Rattle.event_phase.specs.ExecutionPromise.{ExecutionPromise, PutsLast}
use Rattle.event_phase.specs.EventPhase.{executing_machine}
use Rattle.event_phase.specs.CompletionOrders.{as_named}
use Rattle.common_answers.specs.Faults.{refusing, fault_line, fault_end}
use Rattle.common_answers.specs.VerdictLines.{refuted_line}
use Rattle.common_answers.specs.declared.faults.Fault.{Fault}
use Rattle.common_answers.specs.declared.faults.Fault.TheVariants.{Format}
use Rattle.command_contracts.specs.Programs.{Program, or_nothing, serves}
use Rattle.input_texts.specs.PlanInput.{in_notation, input_reader}
use Rattle.input_texts.specs.declared.plan_input.Notation.TheVariants.{Text}
use Rattle.run_command.specs.RunCommand.{run_begins, without_feeders}
use Rattle.fleet_command.specs.FleetCauses.{HasLineFault, IsClosedInput, IsOne, IsServed, fleet_causes, names_of}
use Rattle.fleet_command.specs.FleetCommand.{BeginEach, fleet_machine, fleet_start, refusal_words}
use Rattle.fleet_command.specs.FleetHeader.{Nothing}
use Rattle.fleet_command.specs.FleetText.{Plans, fleet_in}
use Rattle.fleet_command.specs.declared.fleet_question.FleetQuestion.{FleetQuestion}
use Rattle.fleet_command.specs.declared.plan_or_refusal.PlanOrRefusal.{PlanOrRefusal}
use Rattle.fleet_command.specs.declared.plan_or_refusal.PlanOrRefusal.TheVariants.{Network, Refused}

-- ---- one plan and its own lines, alone
-- What `run` puts after it has read this network, for these lines of events as all that follow, numbered from 1; and how it ends.
abbrev pub RunsOn : Plan → List (List ℕ) → List ℕ → End → Type 0
RunsOn net lines put end =
    FollowsOutcome run_begins input_reader refusing executing_machine (without_feeders (in_notation Text)) (Given net 0 most_input (as_input lines)) put end

-- The run over a plan's own lines ended at one of them, whatever comes after it, and at none before it; and each line after that one is
-- answered by `idle`.
pub record EndsAtLine (net : Plan) (lines : List (List ℕ)) (said put : List ℕ) (end : End) : Type 0 where
  pub first : List (List ℕ)
  pub line : List ℕ
  pub others : List (List ℕ)
  pub divided : lines ≡ first ++ line ∷ others
  pub ended : (rest : List (List ℕ)) → RunsOn net (first ++ line ∷ rest) put end
  pub not_before : (before : List ℕ) × RunsOn net first (before ++ fault_line (Format (length first + 1) NoEnd)) ends.Fault
  pub idle : said ≡ put ++ idles others

-- What is answered to a plan's own lines, of which a run puts so much: the same, without the fault of an input that ends too soon, and with
-- `idle` for each line after that at which the run ended.
abbrev pub AnswersAs : Plan → (lines : List (List ℕ)) (said put : List ℕ) → End → Type 0
AnswersAs net lines said put end =
    ((put ≡ said ++ fault_line (Format (length lines + 1) NoEnd)) × (end ≡ ends.Fault))
    ⊎ EndsAtLine net lines said put end

-- a network and its own lines open its execution, from the first of them on; nothing is put before
abbrev pub own_opens : Plan → Preamble
own_opens net = record {
  completion_order = as_named;
  opens = λ used rest other before. (used ≡ []) × (other ≡ shown_form net) × (before ≡ []);
}

-- A controllable network is answered as `run` answers it, and keeps what `run` promises of its execution, of its own lines alone.
pub record IsRunAlone (net : Plan) (lines : List (List ℕ)) (said : List ℕ) : Type 0 where
  pub put : List ℕ
  pub end : End
  pub answers : AnswersAs net lines said put end
  pub runs : RunsOn net lines put end
  pub promise : ExecutionPromise (own_opens net) (as_input lines) put end

-- what a plan and its own lines are answered, without its name
abbrev pub IsAlone : PlanOrRefusal → List (List ℕ) → List ℕ → Type 0
IsAlone (Network net) lines said =
    (IsControllable net × IsRunAlone net lines said) ⊎ ((¬ IsControllable net) × (said ≡ refuted_line ++ idles lines))
IsAlone (Refused why) lines said = said ≡ printed_line (refusal_words why) ++ idles lines

-- of all that was put for plans and lines after `go`, what begins with the name of a plan is that, each line after its name
abbrev pub EachAlone : Plans → List InputLine → List ℕ → Type 0
EachAlone plans lines put =
    (place : ℕ) (name : List ℕ) (plan_or_refusal : PlanOrRefusal) → slice_get plans place ≡ Some (name, plan_or_refusal)
    → (said : List ℕ) × (of_name name put ≡ named name said) × IsAlone plan_or_refusal (own_lines name lines) said

-- ---- all lines
-- the first word of a line is one of these names
pub record BeginsWithOne (names : List (List ℕ)) (line : List ℕ) : Type 0 where
  pub name : List ℕ
  pub others : List (List ℕ)
  pub spelled : words line ≡ name ∷ others
  pub one : IsOne names name

-- whole lines, each of which begins with one of these names
pub record AreOfNames (names : List (List ℕ)) (put : List ℕ) : Type 0 where
  pub whole : IsOfWholeLines put
  pub each : All (BeginsWithOne names) (whole_lines put)

-- What was put for plans and lines after `go`: what each plan is answered alone, and no line that begins with no plan's name.
pub record AreAnswered (plans : Plans) (lines : List InputLine) (put : List ℕ) : Type 0 where
  pub alone : EachAlone plans lines put
  pub named : AreOfNames (names_of plans) put

-- ---- the promise
-- what is put of the plans at `go`, in their order, stands before all else
abbrev pub OpensFleet : Nothing × Plans → List ℕ → End → Type 0
OpensFleet text put end = (starts : List (Start EventRun)) × (more : List ℕ) × BeginEach text.1 starts × (put ≡ starts_put starts ++ more)

-- What `fleet` promises. `opens`: it puts how the plans begin that the input declares, or the first refusal of the input. `alone`: after any number of lines
-- each plan was answered as it is alone, and no line was put that begins with no plan's name, whatever comes after. `closes`: at `end` it ends as done, and has
-- put no more than that. `faulty`: it ends by a fault, with its line, if its lines have one. `completes`: only at `end` does it end as done. `faults`: only if
-- the input has a first refusal, or its lines a fault, does it end by one. `never`: in no other way does it end.
pub record FleetPromise (input put : List ℕ) (end : End) : Type 0 where
  pub opens : AnswersText fleet_in refusing OpensFleet input put end
  pub alone : (plans : Plans) (served : IsServed (input_lines input) plans)
      → (said : List ℕ) × (more : List ℕ) × AreAnswered plans served.lines said × (put ≡ said ++ more)
  pub closes : (closed : IsClosedInput (input_lines input)) → AreAnswered closed.plans closed.served.lines put × (end ≡ ends.Done)
  pub faulty : (fault : Fault) → HasLineFault (input_lines input) fault → PutsLast (fault_line fault) put × (end ≡ fault_end fault)
  pub completes : end ≡ ends.Done → IsClosedInput (input_lines input)
  pub faults : (end ≡ ends.Fault) ⊎ (end ≡ ends.Limit)
      → (fault : Fault) × (IsFirstRefusal fleet_in (input_lines input) fault ⊎ HasLineFault (input_lines input) fault)
  pub never : ¬ ((end ≡ ends.EventRefused) ⊎ (end ≡ ends.Refused))

-- the program of `fleet`
abbrev pub fleet_program : FleetQuestion → Program
fleet_program query = serves fleet_machine (fleet_start query) (or_nothing fleet_causes FleetPromise)
