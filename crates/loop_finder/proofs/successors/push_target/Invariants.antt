use Rattle.std.proofs.Common.{take}
use Rattle.loop_finder.proofs.SuccessorLemmas.{ArePushed}
use Rattle.loop_finder.proofs.successors.push_target.Given as goal

abbrev pub invariant-loop-entry : goal.invariant-loop-entry
invariant-loop-entry l = ArePushed l.to l.initial.lists l.lists (take l.entry-index l.entries)
