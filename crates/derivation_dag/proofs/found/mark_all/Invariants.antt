use Rattle.std.proofs.Common.{take}
use Rattle.derivation_dag.specs.Pruned.{AreMarkedBesides}
use Rattle.derivation_dag.proofs.found.mark_all.Given as goal

abbrev pub invariant-loop-id : goal.invariant-loop-id
invariant-loop-id l = AreMarkedBesides l.found l.initial.marks l.marks (take l.id-index l.ids)
