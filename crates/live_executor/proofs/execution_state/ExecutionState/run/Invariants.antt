use Rattle.live_executor.specs.ExecutionStates.{HasRun, points_left}
use Rattle.live_executor.proofs.execution_state.ExecutionState.run.Given as goal

abbrev pub decreases-loop-moment : goal.decreases-loop-moment
decreases-loop-moment l = points_left l.self.moments

abbrev pub invariant-loop-moment : goal.invariant-loop-moment
invariant-loop-moment l = HasRun l.dispatched l.from l.until l.initial.self l.self
