use Rattle.std.specs.List.{All}
use Rattle.longest_case.specs.Longest.{HoldsAtLongest}
use Rattle.longest_case.proofs.longest.longest_edges.Given as goal

abbrev pub invariant-loop-bound : goal.invariant-loop-bound
invariant-loop-bound l = All (HoldsAtLongest l.net) l.edges.items

abbrev pub invariant-loop-link : goal.invariant-loop-link
invariant-loop-link l = All (HoldsAtLongest l.net) l.edges.items
