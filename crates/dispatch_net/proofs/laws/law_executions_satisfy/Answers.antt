use Rattle.dispatch_net.proofs.ExecutionLemmas.{law_executions_satisfy}
use Rattle.dispatch_net.proofs.laws.law_executions_satisfy.Goals as goal

pub returns : goal.returns
returns c = law_executions_satisfy
