use Rattle.std.proofs.Common.{ℕ, ◌<◌, get_or}
use Rattle.closure_model.specs.declared.rows.Made.{Made}
use Rattle.loop_finder.specs.KeptOrders.{GoesAlong}
use Rattle.parallel_rounds.proofs.last_round.stays.Given as goal

abbrev pub invariant-loop-place : goal.invariant-loop-place
invariant-loop-place l = (k : ℕ) (d : Made) → k < l.place → GoesAlong l.order (get_or l.made k d).edge
