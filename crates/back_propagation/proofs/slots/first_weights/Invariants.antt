use Rattle.back_propagation.specs.SlimSlots.{StandForKeys}
use Rattle.back_propagation.proofs.FirstSteps.{IsStoredTo}
use Rattle.back_propagation.proofs.slots.first_weights.Given as goal

abbrev pub invariant-loop-entry : goal.invariant-loop-entry
invariant-loop-entry l = IsStoredTo l.table l.fn.target l.entries l.weights.items l.entry-index × StandForKeys l.table l.fn.target l.words.items
