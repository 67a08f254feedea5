use Rattle.closure_laws.proofs.ClosureLemmas.{law_closures_dispatch_earliest}
use Rattle.closure_laws.proofs.laws.law_closures_dispatch_earliest.Goals as goal

pub returns : goal.returns
returns c = law_closures_dispatch_earliest
