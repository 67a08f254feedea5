use Rattle.std.specs.List.{All, Contains}
use Rattle.longest_case.proofs.loop_search.Raised.loop_from.Given as goal

abbrev pub invariant-loop : goal.invariant-loop
invariant-loop l = All (Contains l.edges) l.walk.items
