use Rattle.std.proofs.Common.{◌≡◌, ◌<◌, ◌%◌, ℕ}
use Rattle.network_closure.specs.RowTest.{SaturatesRow}
use Rattle.network_closure.proofs.unsaturated_edges.unsaturated_in_share.Given as goal

abbrev pub invariant-loop-row : goal.invariant-loop-row
invariant-loop-row l = (k : ℕ) → k < l.row → k % l.shares ≡ l.share → SaturatesRow l.net l.sequence.is_order l.table k
