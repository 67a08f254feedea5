use Rattle.std.proofs.Common.{◌≡◌, length, take}
use Rattle.parallel_rounds.specs.LastRounds.{AreListed}
use Rattle.parallel_rounds.proofs.last_round.delta_in.Given as goal

abbrev pub invariant-loop-row : goal.invariant-loop-row
invariant-loop-row l = (length l.delta.items ≡ l.points) × AreListed l.before (take l.row-index l.rows) l.delta.items
