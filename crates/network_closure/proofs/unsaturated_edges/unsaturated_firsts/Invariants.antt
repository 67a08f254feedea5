use Rattle.std.proofs.Common.{◌≡◌, ◌<◌, ℕ}
use Rattle.net_model.specs.declared.part.Edge.{Edge}
use Rattle.closure_model.specs.Tables.{HasEdge}
use Rattle.network_closure.specs.Saturation.{SaturatesAfter}
use Rattle.network_closure.proofs.unsaturated_edges.unsaturated_firsts.Given as goal

abbrev pub invariant-loop-from : goal.invariant-loop-from
invariant-loop-from l = (k : ℕ) → k < l.from → (first : Edge) → HasEdge l.table first → first.from ≡ record { 0 = k } → SaturatesAfter l.table first l.edge
