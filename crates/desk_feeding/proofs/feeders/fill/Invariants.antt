use Rattle.std.proofs.Common.{◌≡◌, take}
use Rattle.std.specs.Vec.{vec_capacity}
use Rattle.desk_feeding.proofs.feeders.fill.Given as goal

abbrev pub invariant-loop-point : goal.invariant-loop-point
invariant-loop-point l = record {
  items : l.into.items ≡ take l.point-index l.points;
  spare_capacity : vec_capacity l.into ≡ vec_capacity l.fn.into;
}
