use Rattle.std.proofs.Common.{take, drop}
use Rattle.net_model.specs.declared.ids.PointId.{PointId}
use Rattle.labelled_graph.specs.MergedRows.{IsMerging}
use Rattle.labelled_graph.specs.Rows.{AreRising}
use Rattle.labelled_graph.proofs.row.merged.Given as goal

abbrev pub invariant-loop-entry : goal.invariant-loop-entry
invariant-loop-entry l = (to : PointId) → AreRising to l.entries → AreRising to l.new → IsMerging to l.entries (take l.entry-index l.new) (drop l.entry-index l.new) l.all.items l.left
