use Rattle.dispatch_net.proofs.ExecutedLemmas.{law_slim_executions_are_the_same}
use Rattle.dispatch_net.proofs.laws.law_slim_executions_are_the_same.Goals as goal

pub returns : goal.returns
returns c = law_slim_executions_are_the_same
