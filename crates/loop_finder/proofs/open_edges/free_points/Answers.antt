use Rattle.loop_finder.proofs.PlacementLemmas.{due_none}
use Rattle.loop_finder.proofs.open_edges.free_points.Goals as goal

pub loop-number-init : goal.loop-number-init
loop-number-init c = due_none c.args.left.now c.in_ok-free.free c.in_ok-free.ensures
