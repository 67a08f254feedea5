use Rattle.std.proofs.Common.{◌≡◌, map}
use Rattle.std.specs.Prelude.{filter}
use Rattle.std.specs.List.{range_with_len}
use Rattle.parallel_rounds.specs.Targets.{is_reached}
use Rattle.parallel_rounds.proofs.staleness.stale.Given as goal

abbrev pub invariant-loop-point : goal.invariant-loop-point
invariant-loop-point l = l.targets.items ≡ filter (is_reached l.table l.marks.items) (map (λ k. record { 0 = k }) (range_with_len 0 l.point))
