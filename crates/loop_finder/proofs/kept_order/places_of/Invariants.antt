use Rattle.loop_finder.proofs.KeptLemmas.{HasPlaces}
use Rattle.loop_finder.proofs.kept_order.places_of.Given as goal

abbrev pub invariant-loop-place : goal.invariant-loop-place
invariant-loop-place l = HasPlaces l.order l.points l.place l.places.items
