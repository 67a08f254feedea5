use Rattle.std.proofs.Common.{◌≡◌, map, take, None}
use Rattle.example_executions.proofs.lists.TestLists.no_moments.Given as goal

abbrev pub invariant-loop-point : goal.invariant-loop-point
invariant-loop-point l = l.moments.items ≡ map (λ point. None) (take l._point-index l._point-items)
