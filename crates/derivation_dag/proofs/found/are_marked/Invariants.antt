use Rattle.derivation_dag.proofs.FoundLemmas.{Seen}
use Rattle.derivation_dag.proofs.found.are_marked.Given as goal

abbrev pub invariant-loop-place : goal.invariant-loop-place
invariant-loop-place l = Seen l.found l.initial.marks l.marks l.place

abbrev pub decreases-loop-place : goal.decreases-loop-place
decreases-loop-place l = l.place
