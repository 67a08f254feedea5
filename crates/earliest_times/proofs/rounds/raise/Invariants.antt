use Rattle.earliest_times.specs.Rounds.{IsRoundOver}
use Rattle.earliest_times.proofs.rounds.raise.Given as goal

abbrev pub invariant-loop-place : goal.invariant-loop-place
invariant-loop-place l = IsRoundOver l.edges l.place l.before l.after.items l.raised.items
