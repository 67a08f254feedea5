use Rattle.network_closure.specs.Saturation.{IsLoweredTo}
use Rattle.network_closure.proofs.CopyLemmas.{IsBelow}
use Rattle.network_closure.proofs.dense_copies.lower_to_dense.Given as goal

abbrev pub invariant-loop-to : goal.invariant-loop-to
invariant-loop-to l = IsLoweredTo l.net (IsBelow l.dense l.to) l.fn.table l.table
