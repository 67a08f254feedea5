use Rattle.std.proofs.Common.{◌≡◌}
use Rattle.std.proofs.lemmas.Slice.Eq.{slice_eq-Decides}
use Rattle.desk_feeding.proofs.OrderedLemmas.{points_decide}
use Rattle.desk_feeding.proofs.point_order.first_where_same.Goals as goal

pub returns-then-eq : goal.returns-then-eq
returns-then-eq c = (slice_eq-Decides points_decide c.args.one.now c.args.other.now c.eq.result c.eq.ensures).0 c.if-eq.true
