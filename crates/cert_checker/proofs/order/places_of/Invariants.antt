use Rattle.std.proofs.Common.{◌≡◌, length, take}
use Rattle.cert_checker.specs.Orders.{AreOptionalPlaces}
use Rattle.cert_checker.proofs.OrderLemmas.{NoneTwice}
use Rattle.cert_checker.proofs.order.places_of.Given as goal

abbrev pub invariant-loop-index : goal.invariant-loop-index
invariant-loop-index l = record {
  count : length l.places.items ≡ length l.net.points;
  places : AreOptionalPlaces (take l.index l.order) l.places.items;
  once : NoneTwice l.order l.index;
}
