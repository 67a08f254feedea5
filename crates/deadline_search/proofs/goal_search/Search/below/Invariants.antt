use Rattle.std.proofs.Common.{pos, ◌≤ℤ◌}
use Rattle.deadline_search.proofs.DistanceLemmas.{distance}
use Rattle.deadline_search.specs.Deadlines.{IsDeadline, lowest}
use Rattle.deadline_search.specs.Trials.{widest}
use Rattle.deadline_search.proofs.goal_search.Search.below.Given as goal

abbrev pub invariant-loop-kept : goal.invariant-loop-kept
invariant-loop-kept g l = record {
  kept : IsDeadline l.self.net l.self.goal l.kept;
  forward : pos 1 ≤ℤ l.step;
  near : l.step ≤ℤ widest;
}

abbrev pub decreases-loop-kept : goal.decreases-loop-kept
decreases-loop-kept g l = distance lowest l.kept
