-- The plans of a fleet by their names, and the networks of those that are opened.
use Rattle.std.specs.Prelude.{◌≡◌, ℕ, ◌+◌, ◌≤◌, List, [], ◌∷◌, ◌++◌, length, Some, slice_get}
use Rattle.net_model.specs.Network.{Plan}
use Rattle.texts.specs.PrintedLines.{printed_line}
use Rattle.plan_fleet.specs.FleetPlans.{FleetPlan}
use Rattle.plan_fleet.specs.declared.plan_execution.PlanExecution.{PlanExecution}
use Rattle.plan_fleet.specs.declared.plan_execution.PlanExecution.TheVariants.{NotControllable, Running, Complete, Ended}
use Rattle.common_answers.specs.VerdictLines.{refuted_line}
use Rattle.event_phase.specs.ExecutionStart.{PutsStart}
use Rattle.multiplexed_commands.specs.NamedLines.{named}
use Rattle.fleet_command.specs.FleetCommand.{refusal_words}
use Rattle.fleet_command.specs.FleetText.{Plans}
use Rattle.fleet_command.specs.declared.entries.FleetEntry.{FleetEntry}
use Rattle.fleet_command.specs.declared.entries.FleetSlot.{FleetSlot}
use Rattle.fleet_command.specs.declared.entries.FleetSlot.TheVariants.{Opened, Refused as SlotRefused}
use Rattle.fleet_command.specs.declared.plan_or_refusal.PlanOrRefusal.TheVariants.{Network, Refused}

-- the networks that are opened, each under its name
abbrev pub nets_in : Plans → List (List ℕ × Plan)
nets_in [] = []
nets_in ((name, Network net) ∷ plans) = (name, net) ∷ nets_in plans
nets_in ((name, Refused why) ∷ plans) = nets_in plans

-- a plan by its name before any of its lines came
abbrev pub fleet_entry_of : List ℕ → FleetSlot → FleetEntry
fleet_entry_of name slot = record { name = name; slot = slot; count = 0 }

-- the plans by their names, if so many networks were opened before
abbrev pub fleet_entries_of : ℕ → Plans → List FleetEntry
fleet_entries_of place [] = []
fleet_entries_of place ((name, Network net) ∷ plans) = fleet_entry_of name (Opened place) ∷ fleet_entries_of (place + 1) plans
fleet_entries_of place ((name, Refused why) ∷ plans) = fleet_entry_of name (SlotRefused why) ∷ fleet_entries_of place plans

-- ---- what is put of one at `go`
-- by its execution
abbrev pub SaysStart : PlanExecution → List ℕ → Type 0
SaysStart (Running execution) said = PutsStart execution said
SaysStart NotControllable said = said ≡ refuted_line
SaysStart (Complete execution) said = said ≡ refuted_line
SaysStart (Ended execution) said = said ≡ refuted_line

-- one that is kept so
abbrev pub SlotBegins : List FleetPlan → FleetSlot → List ℕ → Type 0
SlotBegins fleet (Opened place) said = (plan : FleetPlan) × (slice_get fleet place ≡ Some plan) × SaysStart plan.execution said
SlotBegins fleet (SlotRefused why) said = said ≡ printed_line (refusal_words why)

-- all of them, in their order
abbrev pub BeginsAll : List FleetPlan → List FleetEntry → List ℕ → Type 0
BeginsAll fleet [] put = put ≡ []
BeginsAll fleet (entry ∷ entries) put =
    (said : List ℕ) × (more : List ℕ) × SlotBegins fleet entry.slot said × (put ≡ named entry.name said ++ more) × BeginsAll fleet entries more

-- no network of these has more points
abbrev pub HaveAtMost : ℕ → List FleetPlan → Type 0
HaveAtMost most fleet = (place : ℕ) (plan : FleetPlan) → slice_get fleet place ≡ Some plan → length plan.net.points ≤ most
