use Rattle.std.proofs.Common.{◌≡◌, map, take}
use Rattle.net_model.specs.Network.{point_named}
use Rattle.support_records.proofs.points.places_in.Given as goal

abbrev pub invariant-loop-name : goal.invariant-loop-name
invariant-loop-name l = l.places.items ≡ map (point_named l.new) (take l.name-index l.names)
