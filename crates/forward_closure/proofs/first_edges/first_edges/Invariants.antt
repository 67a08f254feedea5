use Rattle.std.specs.List.{All}
use Rattle.net_model.specs.Network.{Plan}
use Rattle.net_model.specs.declared.ids.PointId.{PointId}
use Rattle.forward_closure.specs.Rows.{AreDerivedInto, IsFirstInto}
use Rattle.forward_closure.proofs.first_edges.first_edges.Given as goal

abbrev pub invariant-loop-edge : goal.invariant-loop-edge
invariant-loop-edge l = (net : Plan) (to : PointId) → AreDerivedInto net to l.edges → All (IsFirstInto net to) l.firsts.items
