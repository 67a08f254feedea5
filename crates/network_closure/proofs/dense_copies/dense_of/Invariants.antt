use Rattle.closure_model.specs.Keys.{shape_of}
use Rattle.closure_model.specs.Tables.{no_edges, IsAtMost}
use Rattle.network_closure.specs.Saturation.{IsLoweredTo}
use Rattle.network_closure.proofs.CopyLemmas.{IsBelow}
use Rattle.network_closure.proofs.dense_copies.dense_of.Given as goal

abbrev pub invariant-loop-to : goal.invariant-loop-to
invariant-loop-to l = IsLoweredTo l.net (IsBelow l.table l.to) (no_edges (shape_of l.net)) l.dense × IsAtMost l.table l.dense
