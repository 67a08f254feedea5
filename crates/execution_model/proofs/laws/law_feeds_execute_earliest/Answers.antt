use Rattle.execution_model.proofs.LawLemmas.{law_feeds_execute_earliest}
use Rattle.execution_model.proofs.laws.law_feeds_execute_earliest.Goals as goal

pub returns : goal.returns
returns c = law_feeds_execute_earliest
