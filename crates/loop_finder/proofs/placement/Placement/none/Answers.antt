use Rattle.std.proofs.Common.{subst, []}
use Rattle.loop_finder.specs.OpenEdges.{AreDue}
use Rattle.loop_finder.proofs.PlacementLemmas.{placement_none}
use Rattle.loop_finder.proofs.placement.Placement.none.Goals as goal

pub returns-clause-placement : goal.returns-clause-placement
returns-clause-placement c =
    placement_none c.args.table.now c.args.points c.in_ok-placed.placed.order.items c.in_ok-left.left.items c.in_ok-free.free c.requires c.in_ok-placed.ensures.0 c.in_ok-left.ensures
    (subst (λ xs. AreDue [] xs c.in_ok-free.free) c.as_slice.ensures.value c.in_ok-free.ensures)
