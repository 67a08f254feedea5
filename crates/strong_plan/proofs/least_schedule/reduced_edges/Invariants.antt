use Rattle.std.proofs.Common.{◌≡◌, Some, map, take}
use Rattle.net_model.specs.declared.part.Edge.{Edge}
use Rattle.strong_plan.specs.ReducedEdges.{reduced_edge}
use Rattle.strong_plan.proofs.least_schedule.reduced_edges.Given as goal

abbrev pub invariant-loop-bound : goal.invariant-loop-bound
invariant-loop-bound l = (l.bound-items ≡ l.net.bounds) × (map (λ (e : Edge). Some e) l.edges.items ≡ map (reduced_edge l.net) (take l.bound-index l.net.bounds))
