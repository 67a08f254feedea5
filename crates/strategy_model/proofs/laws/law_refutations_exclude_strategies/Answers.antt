use Rattle.strategy_model.proofs.LoopLemmas.{law_refutations_exclude_strategies}
use Rattle.strategy_model.proofs.laws.law_refutations_exclude_strategies.Goals as goal

pub returns : goal.returns
returns c = law_refutations_exclude_strategies
