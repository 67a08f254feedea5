use Rattle.execution_model.proofs.EarliestLemmas.{law_feeds_are_earliest}
use Rattle.execution_model.proofs.laws.law_feeds_are_earliest.Goals as goal

pub returns : goal.returns
returns c = law_feeds_are_earliest
