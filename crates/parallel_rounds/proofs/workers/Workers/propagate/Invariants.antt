use Rattle.std.proofs.Common.{◌-◌, length}
use Rattle.std.specs.Prelude.{IfSome}
use Rattle.closure_model.specs.Orders.{IsOrder}
use Rattle.parallel_rounds.specs.LastRounds.{IsLastRound}
use Rattle.parallel_rounds.proofs.RoundsSteps.{IsUnderWay}
use Rattle.parallel_rounds.proofs.workers.Workers.propagate.Given as goal

abbrev pub invariant-loop-last : goal.invariant-loop-last
invariant-loop-last g l = record {
  progress : IsUnderWay l.net (g.S.Supports.support l.fn.store) (g.S.Supports.support l.store) l.rounds;
  kept : IfSome l.kept (IsOrder (g.S.Supports.support l.store).table);
  informed : IfSome l.last (IsLastRound l.net (g.S.Supports.support l.store).table);
}

abbrev pub decreases-loop-last : goal.decreases-loop-last
decreases-loop-last g l = length l.net.points - l.rounds
