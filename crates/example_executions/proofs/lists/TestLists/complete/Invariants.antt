use Rattle.std.proofs.Common.{◌≡◌, drop}
use Rattle.execution_model.specs.Feeds.{completions_taken}
use Rattle.example_executions.proofs.lists.TestLists.complete.Given as goal

abbrev pub invariant-loop-point : goal.invariant-loop-point
invariant-loop-point l = completions_taken l.self l.initial.moments l.moment l.listed ≡ completions_taken l.self l.moments l.moment (drop l.point-index l.listed)
