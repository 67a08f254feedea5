use Rattle.derivation_dag.proofs.MarkLemmas.{Swept}
use Rattle.derivation_dag.proofs.ancestors.mark_under.Given as goal

abbrev pub invariant-loop-place : goal.invariant-loop-place
invariant-loop-place l = Swept l.nodes l.initial.marks l.marks l.place

abbrev pub decreases-loop-place : goal.decreases-loop-place
decreases-loop-place l = l.place
