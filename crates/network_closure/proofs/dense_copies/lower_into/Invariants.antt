use Rattle.network_closure.specs.Saturation.{IsLoweredTo}
use Rattle.network_closure.proofs.CopyLemmas.{IsEdgeToBelow}
use Rattle.network_closure.proofs.dense_copies.lower_into.Given as goal

abbrev pub invariant-loop-from : goal.invariant-loop-from
invariant-loop-from l = IsLoweredTo l.net (IsEdgeToBelow l.dense l.to l.from) l.fn.table l.table
