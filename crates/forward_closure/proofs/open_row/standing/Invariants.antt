use Rattle.net_model.specs.Network.{Plan}
use Rattle.net_model.specs.declared.ids.PointId.{PointId}
use Rattle.forward_closure.specs.Rows.{AreDerivedInto}
use Rattle.forward_closure.proofs.open_row.standing.Given as goal

abbrev pub invariant-loop-edge : goal.invariant-loop-edge
invariant-loop-edge l = (net : Plan) (to : PointId) → AreDerivedInto net to l.edges → AreDerivedInto net to l.standing.items
