-- One plan of a fleet: its network, and how far its execution is. It is executed by its shown form, so the moments of an execution are those at which
-- completions are shown. This project's own choice.
use Rattle.std.specs.Prelude.{◌≡◌, ◌⊎◌, ℕ, List, length, Some, None}
use Rattle.net_model.specs.Network.{Plan}
use Rattle.net_model.specs.ShownForm.{shown_form}
use Rattle.net_model.specs.declared.ids.PointId.{PointId}
use Rattle.strategy_model.specs.Control.{IsControllable}
use Rattle.closure_model.specs.Tables.{Graph}
use Rattle.canonical_closure.specs.CanonicalClosure.{IsDispatchedByClosure}
use Rattle.execution_model.specs.Feeds.{Execution, started, IsFed, IsFinished}
use Rattle.execution_model.specs.Laws.{setting_of}
use Rattle.execution_model.specs.declared.feed_answers.Fed.{Fed}
use Rattle.execution_model.specs.declared.feed_answers.Finished.{Finished}
use Rattle.plan_fleet.specs.PlanExecutions.{execution_after_feed, execution_after_finish, ended, execution_of, state_of}
use Rattle.plan_fleet.specs.declared.plan_execution.PlanExecution.{PlanExecution}
use Rattle.plan_fleet.specs.declared.plan_execution.PlanExecution.TheVariants.{NotControllable, Running}
use Rattle.plan_fleet.specs.declared.states.State.TheVariants as state
use Rattle.plan_fleet.specs.declared.states.FleetFed.{FleetFed}
use Rattle.plan_fleet.specs.declared.states.FleetFed.TheVariants as fleet_fed
use Rattle.plan_fleet.specs.declared.states.FleetFinished.{FleetFinished}
use Rattle.plan_fleet.specs.declared.states.FleetFinished.TheVariants as fleet_finished

-- a plan of a fleet: its network as it is stated, and how far its execution is
pub record FleetPlan : Type 0 where
  pub net : Plan
  pub execution : PlanExecution

-- an execution that runs has no refusal; each is one of as many points as the network has
pub record IsFleetPlan (member : FleetPlan) : Type 0 where
  pub runs : (execution : Execution) → member.execution ≡ Running execution → execution.refused ≡ None
  pub points : (execution : Execution) → execution_of member.execution ≡ Some execution
      → length execution.setting.dispatch ≡ length member.net.points

-- a controllable plan is executed by the closure of its shown form
pub record IsRunningAtFirst (net : Plan) (member : FleetPlan) : Type 0 where
  pub controllable : IsControllable net
  pub table : Graph
  pub order : List PointId
  pub by_closure : IsDispatchedByClosure (shown_form net) table order
  pub runs : member.execution ≡ Running (started (setting_of (shown_form net) table))

-- every other is not executed
pub record IsRefutedAtFirst (net : Plan) (member : FleetPlan) : Type 0 where
  pub never : ¬ IsControllable net
  pub stands : member.execution ≡ NotControllable

-- how a plan is opened: it runs exactly if it is controllable
abbrev pub OpensTo : Plan → FleetPlan → Type 0
OpensTo net member = (member.net ≡ net) × (IsRunningAtFirst net member ⊎ IsRefutedAtFirst net member)

-- a plan runs
abbrev pub IsRunning : FleetPlan → Type 0
IsRunning member = state_of member.execution ≡ state.Running

-- a plan that runs is fed: its execution is, and a feed that is refused ends it
pub record IsFedPlan (member : FleetPlan) (moment : ℕ) (listed : List PointId) (answer : Fed) (after : FleetPlan) : Type 0 where
  pub execution : Execution
  pub then_execution : Execution
  pub was : member.execution ≡ Running execution
  pub feeds : IsFed execution moment listed answer then_execution
  pub is : after ≡ record { net = member.net; execution = execution_after_feed answer (Running then_execution) }

-- a feed of a plan: nothing changes exactly if it does not run
abbrev pub FeedsPlan : FleetPlan → (moment : ℕ) → List PointId → FleetFed → FleetPlan → Type 0
FeedsPlan member moment listed (fleet_fed.Fed answer) after = IsFedPlan member moment listed answer after
FeedsPlan member moment listed fleet_fed.Idle after = (¬ IsRunning member) × (after ≡ member)

-- a plan that runs is finished: its execution is, and it is complete or has ended
pub record IsFinishedPlan (member : FleetPlan) (answer : Finished) (after : FleetPlan) : Type 0 where
  pub execution : Execution
  pub then_execution : Execution
  pub was : member.execution ≡ Running execution
  pub finishes : IsFinished execution answer then_execution
  pub is : after ≡ record { net = member.net; execution = execution_after_finish answer (Running then_execution) }

-- the end of a plan: nothing changes exactly if it does not run
abbrev pub FinishesPlan : FleetPlan → FleetFinished → FleetPlan → Type 0
FinishesPlan member (fleet_finished.Finished answer) after = IsFinishedPlan member answer after
FinishesPlan member fleet_finished.Idle after = (¬ IsRunning member) × (after ≡ member)

-- a plan that runs is ended; every other stays as it is
abbrev pub EndsPlan : FleetPlan → FleetPlan → Type 0
EndsPlan member after = after ≡ record { net = member.net; execution = ended member.execution }
