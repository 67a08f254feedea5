use Rattle.std.proofs.Common.{◌≡◌, ℕ, [], drop}
use Rattle.std.specs.Prelude.{nat_le, ◌&&◌}
use Rattle.std.specs.List.{list_all}
use Rattle.execution_model.specs.Execution.{meets_wait}
use Rattle.live_executor.proofs.condition_moments.waits_met.Given as goal

abbrev pub invariant-loop-wait : goal.invariant-loop-wait
invariant-loop-wait l =
    (t : ℕ) → list_all (meets_wait (record { links = l.links; dispatch = [] }) l.moments t) l.waits
    ≡ (nat_le l.first t && list_all (meets_wait (record { links = l.links; dispatch = [] }) l.moments t) (drop l.wait-index l.waits))
