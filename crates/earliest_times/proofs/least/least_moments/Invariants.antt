use Rattle.earliest_times.proofs.LeastLemmas.{IsUnderWay}
use Rattle.earliest_times.proofs.least.least_moments.Given as goal

abbrev pub invariant-loop : goal.invariant-loop
invariant-loop l = IsUnderWay l.edges l.points l.counter l.levels.items l.now.items
