use Rattle.strategy_model.proofs.EarliestLemmas.{law_at_most_one_earliest}
use Rattle.strategy_model.proofs.laws.law_at_most_one_earliest.Goals as goal

pub returns : goal.returns
returns c = law_at_most_one_earliest
