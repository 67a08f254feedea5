-- The same of the nodes that are held.
use Rattle.std.proofs.Common.{◌∙◌, refl, ap, sym, subst}
use Rattle.std.specs.Prelude.{IfSome}
use Rattle.closure_model.specs.Derivations.{AreAncestors}
use Rattle.derivation_dag.specs.Pruned.{numbers_in, AreAncestorsIn}
use Rattle.refutation_certificates.proofs.CanBeMade.{cycle_has_weights, ids_can_be, steps_among, certificate_made, made_accepted, made_weights}
use Rattle.refutation_certificates.proofs.cycle_refutation.refutation_if_held.Goals as goal

pub steps_of-requires : goal.steps_of-requires
steps_of-requires c = cycle_has_weights c.args.store.now.table c.args.cycle.now c.requires.cycle

pub lines_of-requires-clause-can : goal.lines_of-requires-clause-can
lines_of-requires-clause-can c =
    let nodes = c.args.store.now.nodes in
    let given = c.as_slice.result.now in
    let found = subst (λ o. IfSome o (λ held. AreAncestorsIn nodes given held.items)) c.in-Some.is c.in_ok-found.ensures in
    let under = subst (AreAncestors nodes given) (sym (c.in_ok-ids.ensures ∙ ap numbers_in c.as_slice-2.ensures.value)) found.ancestors in
    ids_can_be c.args.net.now c.sound.ensures c.args.store.now c.requires.stands c.args.cycle.now nodes refl c.in_ok-steps.steps.items c.in_ok-steps.ensures given c.as_slice.ensures.value c.in_ok-ids.ids.items under
    c.as_slice-3.result.now c.as_slice-3.ensures.value

pub walk_by-requires-clause-there : goal.walk_by-requires-clause-there
walk_by-requires-clause-there c =
    let nodes = c.args.store.now.nodes in
    let given = c.as_slice.result.now in
    let found = subst (λ o. IfSome o (λ held. AreAncestorsIn nodes given held.items)) c.in-Some.is c.in_ok-found.ensures in
    let under = subst (AreAncestors nodes given) (sym (c.in_ok-ids.ensures ∙ ap numbers_in c.as_slice-2.ensures.value)) found.ancestors in
    steps_among c.args.net.now c.sound.ensures c.args.store.now c.requires.stands c.args.cycle.now nodes refl c.in_ok-steps.steps.items c.in_ok-steps.ensures given c.as_slice.ensures.value c.in_ok-ids.ids.items under
    c.as_slice-5.result.now c.as_slice-6.result.now c.as_slice-5.ensures.value c.as_slice-6.ensures.value

pub returns-clause-refutes : goal.returns-clause-refutes
returns-clause-refutes c =
    let nodes = c.args.store.now.nodes in
    let given = c.as_slice.result.now in
    let found = subst (λ o. IfSome o (λ held. AreAncestorsIn nodes given held.items)) c.in-Some.is c.in_ok-found.ensures in
    let under = subst (AreAncestors nodes given) (sym (c.in_ok-ids.ensures ∙ ap numbers_in c.as_slice-2.ensures.value)) found.ancestors in
    certificate_made c.args.net.now c.sound.ensures c.args.store.now c.requires.stands c.args.cycle.now nodes refl c.in_ok-steps.steps.items c.in_ok-steps.ensures given c.as_slice.ensures.value c.in_ok-ids.ids.items under
    c.as_slice-3.result.now c.as_slice-5.result.now c.as_slice-6.result.now c.in_ok-lines.lines.items c.new.result c.in_ok-walk.walk.items c.new-2.result
    c.as_slice-3.ensures.value c.as_slice-5.ensures.value c.as_slice-6.ensures.value c.in_ok-lines.ensures c.in_ok-walk.ensures c.new.ensures c.new-2.ensures

pub returns-clause-accepted : goal.returns-clause-accepted
returns-clause-accepted c = made_accepted c.args.net.now c.sound.ensures c.args.store.now c.requires.stands c.args.cycle.now _ (returns-clause-refutes c) c.requires.cycle

pub returns-clause-weights : goal.returns-clause-weights
returns-clause-weights c = made_weights c.args.net.now c.sound.ensures c.args.store.now c.requires.stands c.args.cycle.now _ (returns-clause-refutes c)
