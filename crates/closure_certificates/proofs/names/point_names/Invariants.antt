use Rattle.std.proofs.Common.{◌≡◌, map, take}
use Rattle.net_model.specs.NetworkParts.{point_name}
use Rattle.closure_certificates.proofs.names.point_names.Given as goal

abbrev pub invariant-loop-point : goal.invariant-loop-point
invariant-loop-point l = l.names.items ≡ map (point_name l.net.points) (take l.point-index l.points)
