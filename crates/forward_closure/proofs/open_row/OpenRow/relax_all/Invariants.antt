use Rattle.std.proofs.Common.{◌≡◌}
use Rattle.forward_closure.proofs.open_row.OpenRow.relax_all.Given as goal

abbrev pub invariant-loop-edge : goal.invariant-loop-edge
invariant-loop-edge l = l.self ≡ l.fn.self
