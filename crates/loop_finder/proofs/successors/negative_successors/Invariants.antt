use Rattle.loop_finder.proofs.SuccessorLemmas.{AreFilled}
use Rattle.loop_finder.proofs.successors.negative_successors.Given as goal

abbrev pub invariant-loop-to : goal.invariant-loop-to
invariant-loop-to l = AreFilled l.table l.lists.items l.to
