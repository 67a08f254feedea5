use Rattle.execution_model.proofs.SlimLemmas.{law_slim_is_due_the_same}
use Rattle.execution_model.proofs.laws.law_slim_is_due_the_same.Goals as goal

pub returns : goal.returns
returns c = law_slim_is_due_the_same
