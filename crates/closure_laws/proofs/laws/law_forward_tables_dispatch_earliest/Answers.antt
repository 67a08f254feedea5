use Rattle.closure_laws.proofs.ForwardLemmas.{law_forward_tables_dispatch_earliest}
use Rattle.closure_laws.proofs.laws.law_forward_tables_dispatch_earliest.Goals as goal

pub returns : goal.returns
returns c = law_forward_tables_dispatch_earliest
