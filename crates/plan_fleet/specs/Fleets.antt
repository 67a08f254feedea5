-- The plans of a fleet, in order: one changes, and no other. This project's own choice.
use Rattle.std.specs.Prelude.{◌≡◌, ℕ, List, length, Some, IsSome, slice_get, slice_set}
use Rattle.net_model.specs.Network.{Plan}
use Rattle.plan_fleet.specs.FleetPlans.{FleetPlan, OpensTo}
use Rattle.plan_fleet.specs.PlanExecutions.{execution_of}

-- the networks were opened in their order, each as it is, whatever the others are
pub record AreOpened (nets : List Plan) (fleet : List FleetPlan) : Type 0 where
  pub count : length fleet ≡ length nets
  pub each : (place : ℕ) (net : Plan) → slice_get nets place ≡ Some net
      → (member : FleetPlan) × (slice_get fleet place ≡ Some member) × OpensTo net member

-- the plan of this number changes so, and every other stays as it is
pub record ChangesOne (fleet : List FleetPlan) (plan : ℕ) (Change : FleetPlan → FleetPlan → Type 0)
    (after : List FleetPlan) : Type 0 where
  pub old : FleetPlan
  pub new : FleetPlan
  pub was : slice_get fleet plan ≡ Some old
  pub changes : Change old new
  pub is : after ≡ slice_set fleet plan new

-- the plan of this number is so
abbrev pub AtPlan : List FleetPlan → ℕ → (FleetPlan → Type 0) → Type 0
AtPlan fleet plan Is = (member : FleetPlan) × (slice_get fleet plan ≡ Some member) × Is member

-- the plan of this number was started: it has an execution
abbrev pub IsStarted : List FleetPlan → ℕ → Type 0
IsStarted fleet plan = AtPlan fleet plan (λ member. IsSome (execution_of member.execution))
