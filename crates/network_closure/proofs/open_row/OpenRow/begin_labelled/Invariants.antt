use Rattle.std.proofs.Common.{◌≡◌}
use Rattle.network_closure.specs.Progress.{ProgressGoesOn}
use Rattle.network_closure.proofs.open_row.OpenRow.begin_labelled.Given as goal

abbrev pub invariant-loop-from : goal.invariant-loop-from
invariant-loop-from g l = ProgressGoesOn (g.T.Relaxable.progress l.fn.table) (g.T.Relaxable.progress l.table) × (l.self.target ≡ l.fn.self.target)
