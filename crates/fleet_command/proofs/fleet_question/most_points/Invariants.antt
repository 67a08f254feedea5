use Rattle.std.proofs.Common.{◌≡◌, ◌<◌, ◌≤◌, ℕ, Some, length}
use Rattle.std.specs.Prelude.{slice_get}
use Rattle.net_model.specs.Limits.{most_points}
use Rattle.plan_fleet.specs.FleetPlans.{FleetPlan}
use Rattle.fleet_command.proofs.fleet_question.most_points.Given as goal

abbrev pub invariant-loop-place : goal.invariant-loop-place
invariant-loop-place l = record {
  most : (place : ℕ) (plan : FleetPlan) → place < l.place → slice_get l.fleet place ≡ Some plan → length plan.net.points ≤ l.most;
  limit : l.most ≤ most_points;
}
