use Rattle.std.proofs.Common.{refl, arith}
use Rattle.derivation_dag.proofs.FoundLemmas.{rise_more}
use Rattle.derivation_dag.proofs.found.rise.Goals as goal

pub loop-place-preserved : goal.loop-place-preserved
loop-place-preserved c = rise_more c.args.found.now c.loop-place.place _ _ (omega arith) (omega arith) c.loop-place.invariant (c.if-not-is_before.ensures refl)
