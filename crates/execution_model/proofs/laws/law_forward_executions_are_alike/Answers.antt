use Rattle.execution_model.proofs.ForwardExecutionLemmas.{law_forward_executions_are_alike}
use Rattle.execution_model.proofs.laws.law_forward_executions_are_alike.Goals as goal

pub returns : goal.returns
returns c = law_forward_executions_are_alike
