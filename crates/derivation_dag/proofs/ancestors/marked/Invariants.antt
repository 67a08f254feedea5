use Rattle.derivation_dag.proofs.MarkLemmas.{AreMarkedBelow}
use Rattle.derivation_dag.proofs.ancestors.marked.Given as goal

abbrev pub invariant-loop-place : goal.invariant-loop-place
invariant-loop-place l = AreMarkedBelow l.marks l.place l.found.items
