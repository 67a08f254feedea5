use Rattle.derivation_dag.proofs.RestLemmas.{Rested}
use Rattle.derivation_dag.proofs.rest_marks.resting_marks.Given as goal

abbrev pub invariant-loop-place : goal.invariant-loop-place
invariant-loop-place l = Rested l.nodes l.item l.rests.items l.place
