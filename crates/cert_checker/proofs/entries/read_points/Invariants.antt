use Rattle.std.proofs.Common.{take}
use Rattle.cert_checker.specs.TableRefusals.{ReadsEach}
use Rattle.cert_checker.specs.Tables.{point_passes}
use Rattle.cert_checker.proofs.entries.read_points.Given as goal

abbrev pub invariant-loop-index : goal.invariant-loop-index
invariant-loop-index l = ReadsEach (point_passes l.net) (take l.index l.order) l.points.items
