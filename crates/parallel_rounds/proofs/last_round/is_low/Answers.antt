-- If an end is no point, there is no edge.
use Rattle.std.proofs.Common.{arith, sym}
use Rattle.parallel_rounds.proofs.DeltaSteps.{out_of_range}
use Rattle.parallel_rounds.proofs.last_round.is_low.Goals as goal
use Rattle.parallel_rounds.proofs.last_round.is_low.Goals.{then-from-points-via-then-from-points, then-from-points-via-else-from-points+then-to-points}

pub returns-then-from-points : goal.returns-then-from-points
returns-then-from-points c =
    sym (out_of_range c.args.table.now c.args.points c.args.from c.args.to c.requires
    (λ from_here to_here. elim c.then-from-points.branch [ then-from-points-via-then-from-points w ↦ omega arith | then-from-points-via-else-from-points+then-to-points w ↦ omega arith ]))
