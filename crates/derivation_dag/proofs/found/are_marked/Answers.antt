use Rattle.std.proofs.Common.{◌≡◌, ◌-◌, suc, refl, arith, subst}
use Rattle.derivation_dag.proofs.FoundLemmas.{Seen, seen_none, seen_at}
use Rattle.derivation_dag.proofs.found.are_marked.Goals as goal

pub loop-place-init : goal.loop-place-init
loop-place-init c = seen_none c.args.found.now c.args.marks.now _ refl c.requires

pub loop-place-preserved : goal.loop-place-preserved
loop-place-preserved c =
    let place : c.loop-place.place ≡ suc (c.loop-place.place - 1) = omega (arith, c.loop-place-test.true) in
    let seen = subst (Seen c.args.found.now c.args.marks.now c.loop-place.marks) place c.loop-place.invariant in
    seen_at c.args.found.now c.args.marks.now c.loop-place.marks c.mark_premises.new.marks (c.loop-place.place - 1) _ (omega (arith, c.loop-place.invariant.within, c.loop-place-test.true)) seen c.if-not-marks-place.false (c.if-not-mark_premises.ensures.marked refl)

pub returns-clause-premises : goal.returns-clause-premises
returns-clause-premises c _ k one least = c.loop-place.invariant.premises k one (omega (arith, c.loop-place-test.false))

pub returns-clause-under : goal.returns-clause-under
returns-clause-under c _ whole ids numbered start k one least = c.loop-place.invariant.below whole ids numbered start k one (omega (arith, c.loop-place-test.false))
