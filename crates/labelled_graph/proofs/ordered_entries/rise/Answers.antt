use Rattle.labelled_graph.proofs.MergeLemmas.{rises_more}
use Rattle.std.proofs.Common.{arith, refl}
use Rattle.labelled_graph.proofs.ordered_entries.rise.Goals as goal

pub loop-place-preserved : goal.loop-place-preserved
loop-place-preserved c to = rises_more to c.args.entries.now c.loop-place.place _ _ (omega arith) (omega arith) (c.loop-place.invariant to) (c.if-not-is_before.ensures refl to)
