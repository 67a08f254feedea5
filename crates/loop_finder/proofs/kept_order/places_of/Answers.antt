use Rattle.std.proofs.Common.{arith}
use Rattle.loop_finder.proofs.KeptLemmas.{places_more, places_all}
use Rattle.loop_finder.proofs.kept_order.places_of.Goals as goal

pub loop-place-preserved : goal.loop-place-preserved
loop-place-preserved c =
    places_more c.args.order.now c.args.points c.loop-place.place c.loop-place.places.items (record { 0 = 0 }) c.requires.once (c.requires.within c.loop-place.place (record { 0 = 0 }) c.loop-place-test.true) c.loop-place-test.true
    c.loop-place.invariant

pub returns : goal.returns
returns c = (c.loop-place.invariant.count, places_all c.args.order.now c.args.points c.loop-place.place c.loop-place.places.items c.requires.within (omega (arith, c.loop-place-test.false)) c.loop-place.invariant)
