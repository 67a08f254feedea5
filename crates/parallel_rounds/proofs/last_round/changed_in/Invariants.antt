use Rattle.std.proofs.Common.{◌≡◌, take}
use Rattle.parallel_rounds.specs.LastRounds.{changed_in}
use Rattle.parallel_rounds.proofs.last_round.changed_in.Given as goal

abbrev pub invariant-loop-row : goal.invariant-loop-row
invariant-loop-row l = l.changed.items ≡ changed_in (take l.row-index l.rows)
