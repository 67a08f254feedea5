use Rattle.network_closure.specs.Progress.{ImprovesForEach}
use Rattle.network_closure.proofs.open_row.OpenRow.settle.Given as goal

abbrev pub invariant-loop-block : goal.invariant-loop-block
invariant-loop-block g l = ImprovesForEach (g.T.Relaxable.progress l.fn.table) (g.T.Relaxable.progress l.table) l.fn.self l.self
