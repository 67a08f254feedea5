use Rattle.std.proofs.Common.{◌≡◌}
use Rattle.forward_closure.proofs.open_row.OpenRow.remove_labels.Given as goal

abbrev pub invariant-loop-place : goal.invariant-loop-place
invariant-loop-place l = l.self ≡ l.fn.self
