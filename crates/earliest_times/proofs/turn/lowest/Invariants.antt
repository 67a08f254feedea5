use Rattle.std.proofs.Common.{◌<◌, ◌≤◌, ℕ, length, get_or}
use Rattle.earliest_times.specs.Least.{begins}
use Rattle.earliest_times.proofs.turn.lowest.Given as goal

abbrev pub invariant-loop-at : goal.invariant-loop-at
invariant-loop-at l = record {
  inside : l.lowest < length l.walk;
  least : (other : ℕ) → other < l.at → begins l.edges (get_or l.walk l.lowest 0) ≤ begins l.edges (get_or l.walk other 0);
}
