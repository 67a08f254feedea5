use Rattle.strategy_model.proofs.WalkLemmas.{loops_exclude}
use Rattle.strategy_model.proofs.laws.law_loops_exclude_schedules.Goals as goal

pub returns : goal.returns
returns c = loops_exclude
