use Rattle.std.proofs.Common.{◌≡◌, take}
use Rattle.parallel_rounds.specs.LastRounds.{ordinary_made}
use Rattle.parallel_rounds.proofs.last_round.ordinary_made.Given as goal

abbrev pub invariant-loop-place : goal.invariant-loop-place
invariant-loop-place l = l.edges.items ≡ ordinary_made (take l.place l.made)
