use Rattle.std.proofs.Common.{◌≤ℤ◌, ◌<ℤ◌}
use Rattle.deadline_search.proofs.DistanceLemmas.{distance}
use Rattle.deadline_search.specs.Deadlines.{IsDeadline, lowest}
use Rattle.deadline_search.proofs.goal_search.Search.between.Given as goal

abbrev pub invariant-loop-kept : goal.invariant-loop-kept
invariant-loop-kept g l = record {
  low : lowest ≤ℤ l.failed;
  apart : l.failed <ℤ l.kept;
  none : ¬ IsDeadline l.self.net l.self.goal l.failed;
  kept : IsDeadline l.self.net l.self.goal l.kept;
}

abbrev pub decreases-loop-kept : goal.decreases-loop-kept
decreases-loop-kept g l = distance l.failed l.kept
