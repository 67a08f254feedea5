use Rattle.network_closure.specs.Progress.{ImprovesForEach}
use Rattle.network_closure.proofs.open_row.OpenRow.settle_between.Given as goal

abbrev pub invariant-loop-from : goal.invariant-loop-from
invariant-loop-from g l = ImprovesForEach (g.T.Relaxable.progress l.fn.table) (g.T.Relaxable.progress l.table) l.fn.self l.self
