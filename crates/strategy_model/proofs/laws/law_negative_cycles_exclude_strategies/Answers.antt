use Rattle.strategy_model.proofs.ExactLemmas.{law_negative_cycles_exclude_strategies}
use Rattle.strategy_model.proofs.laws.law_negative_cycles_exclude_strategies.Goals as goal

pub returns : goal.returns
returns c = law_negative_cycles_exclude_strategies
