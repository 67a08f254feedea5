use Rattle.std.proofs.Common.{◌<◌, ℕ, get_or}
use Rattle.net_model.specs.declared.ids.PointId.{PointId}
use Rattle.network_closure.specs.RowTest.{AreCovered, SaturatesAt}
use Rattle.network_closure.proofs.unsaturated_edges.unsaturated_into.Given as goal

abbrev pub invariant-loop-from : goal.invariant-loop-from
invariant-loop-from l = record {
  saturates : (k : ℕ) → k < l.from-index → (d : PointId) → SaturatesAt l.net l.sequence.is_order l.table (get_or l.sequence.points.now k d) l.to l.label;
  covered : AreCovered l.net l.table l.to l.label l.covered.items;
}
