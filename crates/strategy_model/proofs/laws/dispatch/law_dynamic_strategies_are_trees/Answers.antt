use Rattle.strategy_model.proofs.UnfoldLemmas.{law_dynamic_strategies_are_trees}
use Rattle.strategy_model.proofs.laws.dispatch.law_dynamic_strategies_are_trees.Goals as goal

pub returns : goal.returns
returns c = law_dynamic_strategies_are_trees
