use Rattle.std.proofs.Common.{◌≡◌, drop}
use Rattle.parallel_rounds.specs.StoreUpdate.{with_rows, CanTakeRows}
use Rattle.parallel_rounds.proofs.store_update.take_all.Given as goal

abbrev pub invariant-loop-row : goal.invariant-loop-row
invariant-loop-row g l = record {
  taken : with_rows (g.S.Supports.support l.store) (drop l.row-index l.rows) l.left ≡ with_rows (g.S.Supports.support l.fn.store) l.rows l.fn.firsts;
  can : CanTakeRows l.net (g.S.Supports.support l.store) (drop l.row-index l.rows) l.left;
}
