-- How the plans of a fleet are opened: each is decided by its shown form, and then its execution is started if it is controllable.
use Rattle.std.specs.Prelude.{◌≡◌, ℕ, ◌<◌, List, length, map, Result, Ok, Err, IfOk, slice_index_or}
use Rattle.std.specs.List.{All, range_with_len}
use Rattle.net_model.specs.Network.{Plan}
use Rattle.net_model.specs.ShownForm.{shown_form}
use Rattle.strategy_model.specs.Control.{IsControllable}
use Rattle.canonical_closure.specs.CanonicalClosure.{canonical_closure}
use Rattle.execution_model.specs.Feeds.{Execution, started}
use Rattle.execution_model.specs.Laws.{setting_of}
use Rattle.verdicts.specs.Decisions.{IsDecidedBy, IsOrderedForwardTable}
use Rattle.plan_fleet.specs.FleetPlans.{FleetPlan, OpensTo}
use Rattle.plan_fleet.specs.declared.fleet_start.Decided.{Decided}
use Rattle.plan_fleet.specs.declared.fleet_start.Job.{Job}
use Rattle.plan_fleet.specs.declared.plan_execution.PlanExecution.{PlanExecution}
use Rattle.plan_fleet.specs.declared.plan_execution.PlanExecution.TheVariants.{NotControllable, Running, Complete, Ended}

-- the networks of jobs, and those that were given under names
abbrev pub nets_of : List Job → List Plan
nets_of jobs = map (λ (job : Job). job.net) jobs

abbrev pub nets_given : {N : Type 0} → List (N × Plan) → List Plan
nets_given plans = map (λ plan. plan.1) plans

-- the places of jobs are counted from 0
abbrev pub AreNumbered : List Job → Type 0
AreNumbered jobs = map (λ (job : Job). job.place) jobs ≡ range_with_len 0 (length jobs)

-- its shown form is controllable, and this a forward closed table of it with an order, or it is not
pub record IsDecided (decided : Decided) : Type 0 where
  pub shown : decided.shown ≡ shown_form decided.net
  pub is : IsDecidedBy IsOrderedForwardTable decided.shown decided.closed

-- an execution of a network is started by its closure
abbrev pub StartsBy : Plan → Execution → Type 0
StartsBy net execution = execution ≡ started (setting_of net (canonical_closure net))

-- it is, exactly if the network is controllable
abbrev pub StartsOrNot : Plan → PlanExecution → Type 0
StartsOrNot net NotControllable = ¬ IsControllable net
StartsOrNot net (Running execution) = IsControllable net × StartsBy net execution
StartsOrNot net (Complete execution) = ⊥
StartsOrNot net (Ended execution) = ⊥

-- this network was decided
abbrev pub DecidesTo : Plan → Decided → Type 0
DecidesTo net decided = (decided.net ≡ net) × IsDecided decided

-- all were, each at its place, if memory was not refused
abbrev pub DecidesEach : {E : Type 0} → List Job → List (Result Decided E) → Type 0
DecidesEach {E} jobs all =
    (place : ℕ) (job : Job) (one : Result Decided E) → place < length jobs
    → IfOk (slice_index_or all place one) (DecidesTo (slice_index_or jobs place job).net)

abbrev pub AllDecided : {E : Type 0} → List (Result Decided E) → Type 0
AllDecided {E} all = All (λ (one : Result Decided E). IfOk one IsDecided) all

-- a plan is opened by what was decided
abbrev pub OpensDecided : {E : Type 0} → Result Decided E → FleetPlan → Type 0
OpensDecided (Ok decided) member = OpensTo decided.net member
OpensDecided (Err error) member = ⊥
