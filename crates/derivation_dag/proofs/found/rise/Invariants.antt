use Rattle.derivation_dag.proofs.FoundLemmas.{RiseBelow}
use Rattle.derivation_dag.proofs.found.rise.Given as goal

abbrev pub invariant-loop-place : goal.invariant-loop-place
invariant-loop-place l = RiseBelow l.found l.place
