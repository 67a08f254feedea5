-- The command `fleet`: plans, each under a name, and after `go` lines of events, each of which belongs to the plan that it names first.
use Rattle.std.specs.Prelude.{◌≡◌, ◌⊎◌, ℕ, List, [], ◌∷◌, Option, Some, codes, unwrap_or}
use Rattle.std.specs.Fmt.{decimal}
use Rattle.texts.specs.PrintedLines.{printed_line}
use Rattle.net_model.specs.BuiltNetwork.{place_of, which_word, build_fault_word}
use Rattle.net_model.specs.Network.{Plan}
use Rattle.net_model.specs.ShownForm.{shown_form}
use Rattle.net_model.specs.declared.fault.BuildFault.{BuildFault}
use Rattle.net_model.specs.declared.fault.BuildFault.TheVariants as part
use Rattle.net_model.specs.declared.format.FormatKind.TheVariants.{NoEnd, UnknownName}
use Rattle.strategy_model.specs.Control.{IsControllable}
use Rattle.command_words.specs.Arguments.{Arguments}
use Rattle.command_words.specs.Syntax.{Syntax}
use Rattle.command_engine.specs.Machine.{Machine}
use Rattle.command_engine.specs.Phases.{text_then_phase_machine}
use Rattle.command_engine.specs.declared.machines.Flow.{Flow}
use Rattle.command_engine.specs.declared.machines.Flow.TheVariants.{Continue}
use Rattle.command_engine.specs.declared.phases.TextThenPhase.{TextThenPhase}
use Rattle.command_engine.specs.declared.phases.TextThenPhase.TheVariants.{Reading}
use Rattle.multiplexed_commands.specs.Alone.{Runs, Idle}
use Rattle.multiplexed_commands.specs.Starts.{Start, starting_members, starts_put}
use Rattle.multiplexed_commands.specs.Merged.{Around, Member, merged_machine}
use Rattle.event_phase.specs.ExecutionStart.{BeginsExecution}
use Rattle.event_phase.specs.EventRuns.{EventRun}
use Rattle.event_phase.specs.EventPhase.{executing_machine}
use Rattle.common_answers.specs.Faults.{fault_line, fault_end, refusing, stop_fault}
use Rattle.common_answers.specs.declared.faults.Fault.TheVariants.{Format}
use Rattle.fleet_command.specs.FleetHeader.{Nothing}
use Rattle.fleet_command.specs.FleetStands.{fleet_capacity}
use Rattle.fleet_command.specs.FleetText.{FleetSoFar, Plans, initial_fleet, fleet_reader}
use Rattle.fleet_command.specs.declared.fleet_question.FleetQuestion.{FleetQuestion}
use Rattle.fleet_command.specs.declared.plan_or_refusal.PlanOrRefusal.{PlanOrRefusal}
use Rattle.fleet_command.specs.declared.plan_or_refusal.PlanOrRefusal.TheVariants.{Network, Refused}

-- ---- what is put of a plan at `go`, and how it stands then
-- the first part that is refused, by its place, counted from 1
abbrev pub refused_words : BuildFault → (place : ℕ) → List (List ℕ)
refused_words (part.Limit which at) place = codes "refused" ∷ codes "limit" ∷ decimal place ∷ which_word which ∷ []
refused_words why place = codes "refused" ∷ codes "plan" ∷ decimal place ∷ build_fault_word why ∷ []

abbrev pub refusal_words : BuildFault → List (List ℕ)
refusal_words why = refused_words why (unwrap_or (place_of why) 0)

-- its execution begins as that of `run`
pub record BeginsRunning (net : Plan) (start : Start EventRun) : Type 0 where
  pub event_run : EventRun
  pub begins : BeginsExecution (shown_form net) start.said (Continue event_run)
  pub stands : start.stands ≡ Runs event_run

-- or it is idle from then on, and these words are put
pub record BeginsIdle (words : List (List ℕ)) (start : Start EventRun) : Type 0 where
  pub said : start.said ≡ printed_line words
  pub stands : start.stands ≡ Idle

-- a network by its verdict, and one of which a part is refused by that
abbrev pub BeginsPlan : PlanOrRefusal → Start EventRun → Type 0
BeginsPlan (Network net) start =
    (IsControllable net × BeginsRunning net start) ⊎ ((¬ IsControllable net) × BeginsIdle (codes "not controllable" ∷ []) start)
BeginsPlan (Refused why) start = BeginsIdle (refusal_words why) start

-- the plans in their order, each under its name
abbrev pub BeginEach : Plans → List (Start EventRun) → Type 0
BeginEach [] [] = Unit {0}
BeginEach [] (start ∷ starts) = ⊥
BeginEach (plan ∷ plans) [] = ⊥
BeginEach (plan ∷ plans) (start ∷ starts) = (start.name ≡ plan.0) × BeginsPlan plan.1 start × BeginEach plans starts

-- what is put at `go`, and how the command goes on
pub record BeginsFleet (plans : Plans) (answer : List ℕ) (flow : Flow (List (Member EventRun))) : Type 0 where
  pub starts : List (Start EventRun)
  pub each : BeginEach plans starts
  pub put : answer ≡ starts_put starts
  pub goes : flow ≡ Continue (starting_members starts)

abbrev pub fleet_begins : FleetQuestion → Nothing × Plans → List ℕ → Flow (List (Member EventRun)) → Type 0
fleet_begins query text answer flow = BeginsFleet text.1 answer flow

-- ---- after `go`
-- what stands around the plans: a line that names none of them, and an input that ends before `end`
abbrev pub fleet_around : Around
fleet_around = record {
  unknown = λ number. fault_line (Format number UnknownName);
  stopped = λ number stop. fault_line (stop_fault number stop NoEnd);
  end = λ stop. fault_end (stop_fault 0 stop NoEnd);
}

-- what the phase means
abbrev pub plans_machine : Machine (List (Member EventRun))
plans_machine = merged_machine executing_machine fleet_around fleet_capacity

-- ---- the command
-- `fleet` takes no words
abbrev pub fleet_syntax : Syntax
fleet_syntax = record { flags = []; options = []; operands = [] }

abbrev pub fleet_request : Arguments → Option FleetQuestion
fleet_request arguments = Some (record {})

-- how far the input of `fleet` was read
abbrev pub FleetReading : Type 0
FleetReading = TextThenPhase FleetQuestion FleetSoFar (List (Member EventRun))

-- before the first line
abbrev pub fleet_start : FleetQuestion → FleetReading
fleet_start query = Reading query initial_fleet

-- what `fleet` means
abbrev pub fleet_machine : Machine FleetReading
fleet_machine = text_then_phase_machine fleet_begins fleet_reader refusing plans_machine
