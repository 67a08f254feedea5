use Rattle.std.proofs.Common.{◌≡◌}
use Rattle.forward_closure.proofs.open_row.OpenRow.relax_after.Given as goal

abbrev pub invariant-loop-first : goal.invariant-loop-first
invariant-loop-first l = l.self ≡ l.fn.self
