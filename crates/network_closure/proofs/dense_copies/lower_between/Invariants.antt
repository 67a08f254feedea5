use Rattle.network_closure.specs.Saturation.{IsLoweredTo}
use Rattle.network_closure.proofs.CopyLemmas.{IsEdgeLabelled}
use Rattle.network_closure.proofs.dense_copies.lower_between.Given as goal

abbrev pub invariant-loop-link : goal.invariant-loop-link
invariant-loop-link l = IsLoweredTo l.net (IsEdgeLabelled l.dense l.from l.to l.links l.link-index) l.fn.table l.table
