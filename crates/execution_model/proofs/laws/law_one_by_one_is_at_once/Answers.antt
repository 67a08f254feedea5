use Rattle.execution_model.proofs.AtOnceLemmas.{law_one_by_one_is_at_once}
use Rattle.execution_model.proofs.laws.law_one_by_one_is_at_once.Goals as goal

pub returns : goal.returns
returns c = law_one_by_one_is_at_once
