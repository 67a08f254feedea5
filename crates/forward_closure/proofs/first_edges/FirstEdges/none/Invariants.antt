use Rattle.std.proofs.Common.{◌≡◌, []}
use Rattle.std.specs.List.{All}
use Rattle.forward_closure.proofs.first_edges.FirstEdges.none.Given as goal

abbrev pub invariant-loop-point : goal.invariant-loop-point
invariant-loop-point l = All (λ list. list.items ≡ []) l.lists.items
