use Rattle.std.proofs.Common.{◌≡◌, length, sym, subst, arith}
use Rattle.loop_finder.specs.Marks.{IsHead}
use Rattle.loop_finder.proofs.FreeLemmas.{none_open, first_open_found}
use Rattle.loop_finder.proofs.placement.next_in.Goals as goal

pub returns-then-not-has : goal.returns-then-not-has
returns-then-not-has c = sym (first_open_found c.args.placed.now.order.items c.args.targets.now c.loop-to.to-index (record { 0 = 0 }) c.loop-to.invariant c.loop-to-test.true (sym c.if-not-has.ensures))

pub returns : goal.returns
returns c =
    let done : c.loop-to.to-index ≡ length c.args.targets.now = (let inside = c.loop-to.invariant.inside in omega (arith, c.loop-to-test.false)) in
    sym (none_open c.args.placed.now.order.items c.args.targets.now (subst (IsHead c.args.placed.now.order.items c.args.targets.now) done c.loop-to.invariant))
