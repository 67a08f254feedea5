use Rattle.std.proofs.Common.{◌≡◌, take}
use Rattle.net_model.specs.declared.ids.PointId.{PointId}
use Rattle.live_executor.specs.WokenPoints.{IsFoundOrKept}
use Rattle.live_executor.proofs.open_conditions.OpenConditions.wake_all.Given as goal

abbrev pub invariant-loop-waiter : goal.invariant-loop-waiter
invariant-loop-waiter l = record {
  each : (point : PointId) → IsFoundOrKept l.now l.dispatched.setting l.moments l.initial.self.counts.items (take l.waiter-index l.waiters) l.initial.self.due l.self.due point;
  counts : l.self.counts.items ≡ l.initial.self.counts.items;
}
