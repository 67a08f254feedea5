use Rattle.std.proofs.Common.{◌≡◌}
use Rattle.forward_closure.proofs.search.Search.make_all.Given as goal

abbrev pub invariant-loop-point : goal.invariant-loop-point
invariant-loop-point l = l.self ≡ l.fn.self
