use Rattle.std.proofs.Common.{◌≡◌}
use Rattle.forward_closure.proofs.search.Search.make.Given as goal

abbrev pub invariant-loop-turn : goal.invariant-loop-turn
invariant-loop-turn l = l.self ≡ l.fn.self
