-- How the plans of a fleet stand, seen as commands side by side.
use Rattle.std.specs.Prelude.{◌≡◌, ◌≢◌, ◌⊎◌, ℕ, ◌+◌, ◌*◌, ◌<◌, ◌≤◌, max, false, List, [], ◌∷◌, length, map, Option, Some, None, slice_get, slice_set}
use Rattle.net_model.specs.Network.{Plan}
use Rattle.net_model.specs.ShownForm.{shown_form}
use Rattle.execution_model.specs.Feeds.{Execution}
use Rattle.plan_fleet.specs.FleetPlans.{FleetPlan}
use Rattle.plan_fleet.specs.Fleets.{AtPlan}
use Rattle.plan_fleet.specs.declared.plan_execution.PlanExecution.{PlanExecution}
use Rattle.plan_fleet.specs.declared.plan_execution.PlanExecution.TheVariants.{NotControllable, Running, Complete, Ended}
use Rattle.event_stream.specs.EventText.{EventLine}
use Rattle.command_engine.specs.declared.machines.Flow.{Flow}
use Rattle.multiplexed_commands.specs.Alone.{MemberState, Runs, Idle, SaysLineAlone, idle_said, stands_after}
use Rattle.multiplexed_commands.specs.Merged.{Member, after_own, own_number}
use Rattle.multiplexed_commands.specs.NamedLines.{named}
use Rattle.event_phase.specs.EventRuns.{EventRun, event_run_of}
use Rattle.event_phase.specs.EventPhase.{answer_capacity, AnswersEvent, executing_machine}
use Rattle.fleet_command.specs.declared.entries.FleetSlot.{FleetSlot}
use Rattle.fleet_command.specs.declared.entries.FleetSlot.TheVariants.{Opened, Refused}
use Rattle.fleet_command.specs.declared.entries.FleetEntry.{FleetEntry}

-- how a plan stands by its execution: it runs, by its shown form, or is idle
abbrev pub stands_by : Plan → PlanExecution → MemberState EventRun
stands_by net (Running execution) = Runs (event_run_of (shown_form net) execution)
stands_by net NotControllable = Idle
stands_by net (Complete execution) = Idle
stands_by net (Ended execution) = Idle

-- how a plan of a fleet stands
abbrev pub stands_of : FleetPlan → MemberState EventRun
stands_of plan = stands_by plan.net plan.execution

abbrev pub stands_at : Option FleetPlan → MemberState EventRun
stands_at (Some plan) = stands_of plan
stands_at None = Idle

-- how one stands that is kept so: one of which a part was refused is idle
abbrev pub slot_stands : List FleetPlan → FleetSlot → MemberState EventRun
slot_stands fleet (Opened place) = stands_at (slice_get fleet place)
slot_stands fleet (Refused why) = Idle

-- the members of a fleet
abbrev pub fleet_member_of : List FleetPlan → FleetEntry → Member EventRun
fleet_member_of fleet entry = record { name = entry.name; count = entry.count; stands = slot_stands fleet entry.slot }

-- the plans of a fleet as commands side by side, in their order
abbrev pub members_of : List FleetPlan → List FleetEntry → List (Member EventRun)
members_of fleet entries = map (fleet_member_of fleet) entries

-- each that was opened has a place in the fleet, and no two have one place
pub record ArePlaced (fleet : List FleetPlan) (entries : List FleetEntry) : Type 0 where
  pub within : (at place : ℕ) (entry : FleetEntry) → slice_get entries at ≡ Some entry → entry.slot ≡ Opened place → place < length fleet
  pub own : (at other place : ℕ) (entry one : FleetEntry) → slice_get entries at ≡ Some entry → slice_get entries other ≡ Some one
      → entry.slot ≡ Opened place → one.slot ≡ Opened place → at ≡ other

-- none of the first so many has this name
abbrev pub HaveNone : List FleetEntry → List ℕ → ℕ → Type 0
HaveNone entries name count = (at : ℕ) (entry : FleetEntry) → at < count → slice_get entries at ≡ Some entry → entry.name ≢ name

-- the one at this place is the first of this name
abbrev pub IsFirstOfName : List FleetEntry → List ℕ → ℕ → Type 0
IsFirstOfName entries name place = (entry : FleetEntry) × (slice_get entries place ≡ Some entry) × (entry.name ≡ name) × HaveNone entries name place

-- ---- the capacity of an answer
-- how many bytes a byte of an answer takes at most, once its line stands after a name: the name, a blank and the byte
abbrev pub most_named : ℕ
most_named = 34

-- how many bytes the line of one that is idle takes
abbrev pub idle_capacity : ℕ
idle_capacity = 5

-- how many bytes the answer to a line takes at most without a name, by how its plan stands
abbrev pub said_capacity : MemberState EventRun → ℕ
said_capacity (Runs event_run) = answer_capacity event_run.net
said_capacity Idle = idle_capacity

-- and with its name: there is always capacity for a line of one that is idle
abbrev pub stands_capacity : MemberState EventRun → ℕ
stands_capacity (Runs event_run) = most_named * answer_capacity event_run.net + 1
stands_capacity Idle = 0

abbrev pub fleet_capacity : List (Member EventRun) → ℕ
fleet_capacity [] = 0
fleet_capacity (member ∷ members) = max (stands_capacity member.stands) (fleet_capacity members)

-- there is capacity in a buffer for what each plan is answered
abbrev pub HaveCapacity : List FleetPlan → (capacity : ℕ) → Type 0
HaveCapacity fleet capacity = (place : ℕ) (plan : FleetPlan) → slice_get fleet place ≡ Some plan → answer_capacity plan.net ≤ capacity

-- ---- what a line of one plan changes
-- a plan that runs says this to a line that states so much, and stands so after it; its network stays
pub record SaysReported (number : ℕ) (reported : EventLine) (said : List ℕ) (old new : FleetPlan) : Type 0 where
  pub net : new.net ≡ old.net
  pub execution : Execution
  pub was : stands_of old ≡ Runs (event_run_of (shown_form old.net) execution)
  pub flow : Flow EventRun
  pub answers : AnswersEvent (event_run_of (shown_form old.net) execution) number reported said flow
  pub stands : stands_of new ≡ stands_after flow

-- one that does not run says that it is idle, and stays as it is
pub record SaysIdle (said : List ℕ) (old new : FleetPlan) : Type 0 where
  pub stands : stands_of old ≡ Idle
  pub says : said ≡ idle_said false
  pub same : new ≡ old

-- either of them, to a line that is not passed over
abbrev pub SaysStated : ℕ → EventLine → List ℕ → FleetPlan → FleetPlan → Type 0
SaysStated number reported said old new = SaysReported number reported said old new ⊎ SaysIdle said old new

-- a plan says this to a line of its own by this number, and stands so after it; its network stays
pub record SaysLine (number : ℕ) (line said : List ℕ) (old new : FleetPlan) : Type 0 where
  pub net : new.net ≡ old.net
  pub says : SaysLineAlone executing_machine (stands_of old) number line said (stands_of new)

-- the plan of this place has capacity for its answer in a buffer
abbrev pub HasCapacityAt : List FleetPlan → ℕ → ℕ → Type 0
HasCapacityAt fleet place capacity = AtPlan fleet place (λ plan. answer_capacity plan.net ≤ capacity)

-- Of one that is kept so, this is said to a line of its own by this number; no other plan changes, and all networks stay.
pub record SlotSays (fleet : List FleetPlan) (slot : FleetSlot) (number : ℕ) (line said : List ℕ) (after : List FleetPlan) : Type 0 where
  pub says : SaysLineAlone executing_machine (slot_stands fleet slot) number line said (slot_stands after slot)
  pub nets : map (λ plan. plan.net) after ≡ map (λ plan. plan.net) fleet
  pub others : (place : ℕ) → ¬ (slot ≡ Opened place) → slice_get after place ≡ slice_get fleet place

-- one of the members is answered, and no other changes
pub record AnswersMember (members : List (Member EventRun)) (place number : ℕ) (line put : List ℕ) (after : List (Member EventRun)) : Type 0 where
  pub member : Member EventRun
  pub here : slice_get members place ≡ Some member
  pub said : List ℕ
  pub stands : MemberState EventRun
  pub says : SaysLineAlone executing_machine member.stands (own_number member.count number) line said stands
  pub puts : put ≡ named member.name said
  pub is : after ≡ slice_set members place (after_own member number stands)
