-- The steps, the nodes under them, their lines and the walk are those of a refutation by the cycle.
use Rattle.refutation_certificates.proofs.CanBeMade.{cycle_has_weights, steps_inside, ids_can_be, steps_among, certificate_made, made_accepted, made_weights}
use Rattle.refutation_certificates.proofs.cycle_refutation.refutation.Goals as goal

pub steps_of-requires : goal.steps_of-requires
steps_of-requires g c = cycle_has_weights (g.S.Supports.support c.args.store.now).table c.args.cycle.now c.requires.cycle

pub ancestors-requires : goal.ancestors-requires
ancestors-requires g c =
    steps_inside c.args.net.now c.sound.ensures (g.S.Supports.support c.args.store.now) c.requires.stands c.args.cycle.now c.args.dag.now c.requires.list c.in_ok-steps.steps.items c.in_ok-steps.ensures c.as_slice.result.now
    c.as_slice.ensures.value

pub lines_by-requires : goal.lines_by-requires
lines_by-requires g c =
    ids_can_be c.args.net.now c.sound.ensures (g.S.Supports.support c.args.store.now) c.requires.stands c.args.cycle.now c.args.dag.now c.requires.list c.in_ok-steps.steps.items c.in_ok-steps.ensures c.as_slice.result.now
    c.as_slice.ensures.value
    c.in_ok-ids.ids.items c.in_ok-ids.ensures c.as_slice-2.result.now c.as_slice-2.ensures.value

pub walk_by-requires-clause-there : goal.walk_by-requires-clause-there
walk_by-requires-clause-there g c =
    steps_among c.args.net.now c.sound.ensures (g.S.Supports.support c.args.store.now) c.requires.stands c.args.cycle.now c.args.dag.now c.requires.list c.in_ok-steps.steps.items c.in_ok-steps.ensures c.as_slice.result.now
    c.as_slice.ensures.value
    c.in_ok-ids.ids.items c.in_ok-ids.ensures c.as_slice-3.result.now c.as_slice-4.result.now c.as_slice-3.ensures.value c.as_slice-4.ensures.value

pub returns-clause-refutes : goal.returns-clause-refutes
returns-clause-refutes g c =
    certificate_made c.args.net.now c.sound.ensures (g.S.Supports.support c.args.store.now) c.requires.stands c.args.cycle.now c.args.dag.now c.requires.list c.in_ok-steps.steps.items c.in_ok-steps.ensures c.as_slice.result.now
    c.as_slice.ensures.value
    c.in_ok-ids.ids.items c.in_ok-ids.ensures c.as_slice-2.result.now c.as_slice-3.result.now c.as_slice-4.result.now c.in_ok-lines.lines.items c.new.result c.in_ok-walk.walk.items c.new-2.result
    c.as_slice-2.ensures.value c.as_slice-3.ensures.value c.as_slice-4.ensures.value c.in_ok-lines.ensures c.in_ok-walk.ensures c.new.ensures c.new-2.ensures

pub returns-clause-accepted : goal.returns-clause-accepted
returns-clause-accepted g c =
    made_accepted c.args.net.now c.sound.ensures (g.S.Supports.support c.args.store.now) c.requires.stands c.args.cycle.now _ (returns-clause-refutes g c) c.requires.cycle

pub returns-clause-weights : goal.returns-clause-weights
returns-clause-weights g c =
    made_weights c.args.net.now c.sound.ensures (g.S.Supports.support c.args.store.now) c.requires.stands c.args.cycle.now _ (returns-clause-refutes g c)
