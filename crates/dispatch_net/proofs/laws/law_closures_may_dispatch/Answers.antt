use Rattle.dispatch_net.proofs.EarliestLemmas.{law_closures_may_dispatch}
use Rattle.dispatch_net.proofs.laws.law_closures_may_dispatch.Goals as goal

pub returns : goal.returns
returns c = law_closures_may_dispatch
