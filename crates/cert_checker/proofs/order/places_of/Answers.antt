use Rattle.std.proofs.Common.{rules, ◌≡◌, ◌+◌, ◌<◌, None, true, false, length, get_or, take, is_some, sym, ap, ◌∙◌, refl, arith}
use Rattle.std.proofs.lemmas.List.{get_or_default}
use Rattle.net_model.specs.declared.ids.PointId.{PointId}
use Rattle.cert_checker.specs.Tables.{place_in}
use Rattle.cert_checker.proofs.OrderLemmas.{get_or_again, twice, new_point, places_next}
use Rattle.cert_checker.proofs.order.places_of.Goals as goal

none : PointId
none = record { 0 = 0 }

pub returns-then-is_some : goal.returns-then-is_some
unfolding none
returns-then-is_some c =
    let order = c.args.order.now in
    let i = c.loop-index.index in
    let within = c.loop-index-test.true in
    let point : PointId = get_or order i none in
    let inside = c.requires i none within in
    let few = c.loop-index.invariant.count in
    let place : point.0 < length c.loop-index.places.items = omega (arith, inside, few) in
    let is : is_some (get_or c.loop-index.places.items point.0 None) ≡ true = ap is_some (get_or_default c.loop-index.places.items point.0 None c.index.result.now place ∙ sym c.index.ensures) ∙ (sym c.is_some.ensures ∙ c.if-is_some.true) in
    let stood : is_some (place_in (take i order) point) ≡ true = ap is_some (sym (c.loop-index.invariant.places.each point)) ∙ is in
    twice order i point within (get_or_again order i none) stood c.loop-index.invariant.once (i + 1) refl

pub loop-index-preserved : goal.loop-index-preserved
unfolding none
loop-index-preserved c =
    let order = c.args.order.now in
    let i = c.loop-index.index in
    let within = c.loop-index-test.true in
    let point : PointId = get_or order i none in
    let inside = c.requires i none within in
    let few = c.loop-index.invariant.count in
    let place : point.0 < length c.loop-index.places.items = omega (arith, inside, few) in
    let is : is_some (get_or c.loop-index.places.items point.0 None) ≡ false = search rules in
    let new : is_some (place_in (take i order) point) ≡ false = ap is_some (sym (c.loop-index.invariant.places.each point)) ∙ is in
    record {
      count = search rules;
      places = places_next order c.loop-index.places.items i point within (get_or_again order i none) place new c.loop-index.invariant.places;
      once = new_point order i point within (get_or_again order i none) new c.loop-index.invariant.once;
    }
