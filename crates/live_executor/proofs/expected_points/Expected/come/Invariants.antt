use Rattle.std.proofs.Common.{◌≡◌, ◌≢◌, ◌⊎◌, length, take}
use Rattle.net_model.specs.declared.ids.PointId.{PointId}
use Rattle.net_model.specs.Moments.{moment_of}
use Rattle.execution_model.specs.Feeds.{latest_of}
use Rattle.live_executor.specs.WokenPoints.{times}
use Rattle.live_executor.proofs.expected_points.Expected.come.Given as goal

abbrev pub invariant-loop-other : goal.invariant-loop-other
invariant-loop-other l = record {
  each : (other : PointId) → (moment_of l.self.latest other ≡ latest_of l.dispatched.setting l.moments other)
      ⊎ ((moment_of l.self.latest other ≡ moment_of l.fn.self.latest other) × (other.0 ≢ l.fn.point.0) × (times (take l.other-index l.other-items) other ≡ 0));
  count : length l.self.latest ≡ length l.fn.self.latest;
}
