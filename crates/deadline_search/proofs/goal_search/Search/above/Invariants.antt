use Rattle.std.proofs.Common.{pos, ◌≤ℤ◌}
use Rattle.deadline_search.proofs.DistanceLemmas.{distance}
use Rattle.deadline_search.specs.Deadlines.{IsDeadline, highest, lowest}
use Rattle.deadline_search.specs.Trials.{widest}
use Rattle.deadline_search.proofs.goal_search.Search.above.Given as goal

abbrev pub invariant-loop-failed : goal.invariant-loop-failed
invariant-loop-failed g l = record {
  low : lowest ≤ℤ l.failed;
  high : l.failed ≤ℤ highest;
  none : ¬ IsDeadline l.self.net l.self.goal l.failed;
  forward : pos 1 ≤ℤ l.step;
  near : l.step ≤ℤ widest;
}

abbrev pub decreases-loop-failed : goal.decreases-loop-failed
decreases-loop-failed g l = distance l.failed highest
