use Rattle.loop_finder.specs.Marks.{IsHead}
use Rattle.loop_finder.proofs.placement.next_in.Given as goal

abbrev pub invariant-loop-to : goal.invariant-loop-to
invariant-loop-to l = IsHead l.placed.order.items l.targets l.to-index
