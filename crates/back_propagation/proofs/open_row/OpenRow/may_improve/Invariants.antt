use Rattle.std.proofs.Common.{◌<◌, ◌≤◌, ◌-◌, pos}
use Rattle.std.specs.List.{slice_index_or}
use Rattle.net_model.specs.declared.ids.PointId.{PointId}
use Rattle.closure_model.specs.Keys.{ordinary_key}
use Rattle.closure_model.specs.Tables.{weight_of}
use Rattle.labelled_graph.specs.Words.{held, SaturatesHeld}
use Rattle.back_propagation.proofs.open_row.OpenRow.may_improve.Given as goal

abbrev pub invariant-loop-at : goal.invariant-loop-at
invariant-loop-at l = (l.at ≤ l.points) × ((first : PointId) → first.0 < l.at → SaturatesHeld (weight_of l.basis.table.now (ordinary_key first l.edge.from)) (held (slice_index_or l.words first.0 (pos 0))) l.edge.weight)

abbrev pub decreases-loop-at : goal.decreases-loop-at
decreases-loop-at l = l.points - l.at
