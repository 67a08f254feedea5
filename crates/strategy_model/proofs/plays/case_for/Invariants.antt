use Rattle.std.proofs.Common.{◌≡◌, drop}
use Rattle.strategy_model.specs.Plays.{case_for}
use Rattle.strategy_model.proofs.plays.case_for.Given as goal

abbrev pub invariant-loop-case : goal.invariant-loop-case
invariant-loop-case l = case_for l.cases l.points ≡ case_for (drop l.case-index l.cases) l.points
