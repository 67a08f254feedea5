use Rattle.live_executor.specs.ExecutionStates.{AreSomeMade, points_left}
use Rattle.live_executor.proofs.execution_state.ExecutionState.act.Given as goal

abbrev pub decreases-loop-point : goal.decreases-loop-point
decreases-loop-point l = points_left l.self.moments

abbrev pub invariant-loop-point : goal.invariant-loop-point
invariant-loop-point l = AreSomeMade l.dispatched l.t l.initial.self l.self
