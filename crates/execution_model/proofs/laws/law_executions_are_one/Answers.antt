use Rattle.execution_model.proofs.ExecutionLemmas.{law_executions_are_one}
use Rattle.execution_model.proofs.laws.law_executions_are_one.Goals as goal

pub returns : goal.returns
returns c = law_executions_are_one
