use Rattle.std.proofs.Common.{◌≡◌, List, Bool, false, length, replicate, refl, arith, subst, sym}
use Rattle.std.proofs.lemmas.Grind.{common_steps}
use Rattle.derivation_dag.specs.Pruned.{AreMarkedBesides, AreMarkedUnder}
use Rattle.derivation_dag.proofs.FoundLemmas.{are_ancestors_in}
use Rattle.derivation_dag.proofs.found.are_ancestors.Goals as goal

pub returns : goal.returns
returns c passed whole numbered =
    let found = c.args.found.now in
    let ids = c.args.ids.now in
    let first : c.as_mut_slice.result.now ≡ replicate (length found) false = grind (arith, common_steps) in
    let second : c.as_mut_slice-2.result.now ≡ c.mark_all.new.marks = grind (arith, common_steps) in
    are_ancestors_in found ids c.mark_all.new.marks (length found) (c.if-not-rise.ensures refl)
    (subst (λ (marks : List Bool). AreMarkedBesides found marks c.mark_all.new.marks ids) first (c.if-not-mark_all.ensures refl))
    (c.are_marked.ensures.premises passed) whole numbered
    (λ start. c.are_marked.ensures.under passed whole ids numbered (subst (AreMarkedUnder whole ids found) (sym second) start))
