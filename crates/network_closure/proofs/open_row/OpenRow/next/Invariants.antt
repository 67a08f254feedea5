use Rattle.std.proofs.Common.{◌≡◌, ◌≤◌}
use Rattle.std.specs.BinaryHeap.{heap_len}
use Rattle.network_closure.specs.Progress.{ProgressGoesOn}
use Rattle.network_closure.proofs.open_row.OpenRow.next.Given as goal

abbrev pub invariant-loop-one : goal.invariant-loop-one
invariant-loop-one g l = ProgressGoesOn (g.T.Relaxable.progress l.fn.table) (g.T.Relaxable.progress l.table) × (l.self.target ≡ l.fn.self.target) × (heap_len l.self.queue ≤ heap_len l.fn.self.queue)
