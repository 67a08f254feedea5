use Rattle.std.proofs.Common.{◌≡◌, drop}
use Rattle.execution_model.specs.Feeds.{last_of}
use Rattle.live_executor.proofs.execution_state.ExecutionState.last_act.Given as goal

abbrev pub invariant-loop-act : goal.invariant-loop-act
invariant-loop-act l = last_of l.fn.last l.self.acts ≡ last_of l.latest (drop l.act-index l.act-items)
