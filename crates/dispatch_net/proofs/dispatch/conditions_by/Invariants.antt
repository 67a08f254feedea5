use Rattle.std.proofs.Common.{◌≡◌, length, map}
use Rattle.std.specs.List.{range_with_len}
use Rattle.dispatch_net.specs.Dispatchable.{conditions_in}
use Rattle.dispatch_net.proofs.dispatch.conditions_by.Given as goal

abbrev pub invariant-loop-point : goal.invariant-loop-point
invariant-loop-point l = l.conditions.items ≡ map (conditions_in l.net l.table) (map (λ k. record { 0 = k }) (range_with_len 0 (length l.yielded)))
