use Rattle.std.proofs.Common.{◌≡◌, ◌+◌, length, take}
use Rattle.std.specs.Prelude.{slice_index}
use Rattle.net_model.specs.declared.ids.PointId.{PointId}
use Rattle.live_executor.specs.WokenPoints.{times}
use Rattle.live_executor.proofs.open_conditions.OpenConditions.lower.Given as goal

abbrev pub invariant-loop-waiter : goal.invariant-loop-waiter
invariant-loop-waiter l = record {
  each : (point : PointId) → slice_index l.self.counts.items point.0 + times (take l.waiter-index l.waiters) point ≡ slice_index l.initial.self.counts.items point.0;
  count : length l.self.counts.items ≡ length l.initial.self.counts.items;
  due : l.self.due ≡ l.initial.self.due;
}
