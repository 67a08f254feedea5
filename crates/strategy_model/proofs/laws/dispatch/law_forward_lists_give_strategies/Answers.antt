use Rattle.strategy_model.proofs.CompletenessLemmas.{law_forward_lists_give_strategies}
use Rattle.strategy_model.proofs.laws.dispatch.law_forward_lists_give_strategies.Goals as goal

pub returns : goal.returns
returns c = law_forward_lists_give_strategies
