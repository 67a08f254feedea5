use Rattle.strategy_model.proofs.PlayedLemmas.{law_trees_are_dynamic}
use Rattle.strategy_model.proofs.laws.dispatch.law_trees_are_dynamic.Goals as goal

pub returns : goal.returns
returns c = law_trees_are_dynamic
