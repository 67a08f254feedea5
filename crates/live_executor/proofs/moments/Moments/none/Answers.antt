use Rattle.std.proofs.Common.{rules}
use Rattle.live_executor.specs.Limits.{end_of_time}
use Rattle.live_executor.proofs.ExecutorLemmas.{none_before}
use Rattle.live_executor.proofs.moments.Moments.none.Goals as goal

pub invariant_of-result : goal.invariant_of-result
invariant_of-result c = none_before end_of_time c.args.points c.in_ok-moments.moments.items (search rules)
