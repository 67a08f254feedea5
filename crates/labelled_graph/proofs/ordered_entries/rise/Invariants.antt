use Rattle.std.proofs.Common.{take}
use Rattle.net_model.specs.declared.ids.PointId.{PointId}
use Rattle.labelled_graph.specs.Rows.{AreRising}
use Rattle.labelled_graph.proofs.ordered_entries.rise.Given as goal

abbrev pub invariant-loop-place : goal.invariant-loop-place
invariant-loop-place l = (to : PointId) → AreRising to (take l.place l.entries)
