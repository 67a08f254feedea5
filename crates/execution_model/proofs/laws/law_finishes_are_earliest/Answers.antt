use Rattle.execution_model.proofs.EarliestLemmas.{law_finishes_are_earliest}
use Rattle.execution_model.proofs.laws.law_finishes_are_earliest.Goals as goal

pub returns : goal.returns
returns c = law_finishes_are_earliest
