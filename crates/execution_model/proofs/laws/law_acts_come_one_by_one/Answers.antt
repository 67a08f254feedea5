use Rattle.execution_model.proofs.OneByOneLemmas.{law_acts_come_one_by_one}
use Rattle.execution_model.proofs.laws.law_acts_come_one_by_one.Goals as goal

pub returns : goal.returns
returns c = law_acts_come_one_by_one
