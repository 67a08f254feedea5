use Rattle.std.proofs.Common.{◌≡◌, [], drop}
use Rattle.execution_model.specs.Feeds.{completions_taken}
use Rattle.live_executor.specs.ExecutionStates.{Reaches}
use Rattle.live_executor.specs.Sound.{made_setting}
use Rattle.live_executor.proofs.execution_state.ExecutionState.complete.Given as goal

abbrev pub invariant-loop-point : goal.invariant-loop-point
invariant-loop-point l = record {
  taken : completions_taken (made_setting l.dispatched) l.initial.self.moments l.moment l.listed
      ≡ completions_taken (made_setting l.dispatched) l.self.moments l.moment (drop l.point-index l.listed);
  goes : Reaches l.dispatched l.moment l.self.moments [] l.initial.self l.self;
}
