use Rattle.std.proofs.Common.{◌≡◌, ◌++◌, take}
use Rattle.parallel_rounds.specs.StoreUpdate.{firsts_for}
use Rattle.parallel_rounds.proofs.store_update.push_row.Given as goal

abbrev pub invariant-loop-place : goal.invariant-loop-place
invariant-loop-place g l = l.firsts.items ≡ l.fn.firsts.items ++ firsts_for (g.S.Supports.support l.store).nodes (take l.place l.made)
