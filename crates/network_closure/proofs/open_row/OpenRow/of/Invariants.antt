use Rattle.std.proofs.Common.{◌≡◌}
use Rattle.network_closure.specs.Progress.{ProgressGoesOn}
use Rattle.network_closure.proofs.open_row.OpenRow.of.Given as goal

abbrev pub invariant-loop-link : goal.invariant-loop-link
invariant-loop-link g l = ProgressGoesOn (g.T.Relaxable.progress l.fn.table) (g.T.Relaxable.progress l.table) × (l.row.target ≡ l.fn.target)
