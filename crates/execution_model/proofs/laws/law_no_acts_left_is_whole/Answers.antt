use Rattle.execution_model.proofs.WholeLemmas.{law_no_acts_left_is_whole}
use Rattle.execution_model.proofs.laws.law_no_acts_left_is_whole.Goals as goal

pub returns : goal.returns
returns c = law_no_acts_left_is_whole
