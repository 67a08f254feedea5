use Rattle.strategy_model.proofs.LoopLemmas.{law_loops_exclude_strategies}
use Rattle.strategy_model.proofs.laws.law_loops_exclude_strategies.Goals as goal

pub returns : goal.returns
returns c = law_loops_exclude_strategies
