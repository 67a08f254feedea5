use Rattle.std.proofs.Common.{◌≡◌, take}
use Rattle.parallel_rounds.specs.StoreUpdate.{firsts_for, made_in}
use Rattle.parallel_rounds.proofs.store_update.firsts_in.Given as goal

abbrev pub invariant-loop-row : goal.invariant-loop-row
invariant-loop-row g l = l.firsts.items ≡ firsts_for (g.S.Supports.support l.store).nodes (made_in (take l.row-index l.rows))
