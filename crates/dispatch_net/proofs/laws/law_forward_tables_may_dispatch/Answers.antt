use Rattle.dispatch_net.proofs.EarliestLemmas.{law_forward_tables_may_dispatch}
use Rattle.dispatch_net.proofs.laws.law_forward_tables_may_dispatch.Goals as goal

pub returns : goal.returns
returns c = law_forward_tables_may_dispatch
