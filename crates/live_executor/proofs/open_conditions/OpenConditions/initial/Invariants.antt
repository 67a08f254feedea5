use Rattle.std.proofs.Common.{◌≡◌, ◌<◌, length}
use Rattle.std.specs.Prelude.{slice_index}
use Rattle.net_model.specs.declared.ids.PointId.{PointId}
use Rattle.dispatch_net.specs.Dispatchable.{conditions_at}
use Rattle.execution_model.specs.Execution.{is_due}
use Rattle.net_model.specs.Moments.{moment_of}
use Rattle.live_executor.specs.Due.{PassesFrom}
use Rattle.live_executor.specs.WokenPoints.{condition_count}
use Rattle.live_executor.proofs.open_conditions.OpenConditions.initial.Given as goal

abbrev pub invariant-loop-point : goal.invariant-loop-point
invariant-loop-point l = record {
  count : length l.open_conditions.counts.items ≡ length l.dispatched.setting.dispatch;
  counted : (point : PointId) → point.0 < l.point → slice_index l.open_conditions.counts.items point.0 ≡ condition_count (conditions_at l.dispatched.setting.dispatch point);
  found : (point : PointId) → point.0 < l.point → PassesFrom (λ t. is_due l.dispatched.setting l.moments t point) (moment_of l.open_conditions.due point);
}
