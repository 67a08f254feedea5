use Rattle.std.proofs.Common.{◌≡◌}
use Rattle.cell_table.proofs.depth_first_sweep.sweep.Given as goal

abbrev pub invariant-loop-target : goal.invariant-loop-target
invariant-loop-target g l = (l.depth_first.net ≡ l.task.net.now) × (l.depth_first.place ≡ l.cells)
