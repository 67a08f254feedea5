use Rattle.std.proofs.Common.{◌≡◌, drop}
use Rattle.execution_model.specs.Feeds.{last_of}
use Rattle.example_executions.proofs.time_steps.last_of.Given as goal

abbrev pub invariant-loop-act : goal.invariant-loop-act
invariant-loop-act l = last_of l.initial.latest l.acts ≡ last_of l.latest (drop l.act-index l.acts)
