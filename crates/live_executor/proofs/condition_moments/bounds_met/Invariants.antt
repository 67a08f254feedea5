use Rattle.std.proofs.Common.{◌≡◌, ℕ, drop}
use Rattle.std.specs.Prelude.{nat_le, ◌&&◌}
use Rattle.std.specs.List.{list_all}
use Rattle.execution_model.specs.Execution.{meets_bound}
use Rattle.live_executor.proofs.condition_moments.bounds_met.Given as goal

abbrev pub invariant-loop-point : goal.invariant-loop-point
invariant-loop-point l =
    (t : ℕ) → list_all (meets_bound l.moments t) l.bounds ≡ (nat_le l.first t && list_all (meets_bound l.moments t) (drop l.point-index l.bounds))
