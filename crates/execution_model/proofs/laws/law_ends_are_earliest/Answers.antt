use Rattle.execution_model.proofs.LawLemmas.{law_ends_are_earliest}
use Rattle.execution_model.proofs.laws.law_ends_are_earliest.Goals as goal

pub returns : goal.returns
returns c = law_ends_are_earliest
