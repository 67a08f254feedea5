use Rattle.std.proofs.Common.{◌+◌, sym, subst, arith}
use Rattle.derivation_dag.proofs.RestLemmas.{Rested, step_premises, step_more}
use Rattle.derivation_dag.proofs.rest_marks.resting_marks.Goals as goal

pub rests_by-requires : goal.rests_by-requires
rests_by-requires c =
    step_premises c.args.nodes.now c.args.item c.loop-place.rests.items c.loop-place.place _ c.requires.earlier (omega arith) c.loop-place.invariant c.as_slice.result.now c.as_slice.ensures.value

pub loop-place-preserved : goal.loop-place-preserved
loop-place-preserved c =
    subst (λ rests. Rested c.args.nodes.now c.args.item rests (c.loop-place.place + 1)) (sym c.in_ok-push.ensures.items)
    (step_more c.args.nodes.now c.args.item c.loop-place.rests.items c.loop-place.place _ c.requires.earlier (omega arith) c.loop-place.invariant c.rests_by.result c.as_slice.result.now c.as_slice.ensures.value c.rests_by.ensures)
