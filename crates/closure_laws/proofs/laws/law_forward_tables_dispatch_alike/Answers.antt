use Rattle.closure_laws.proofs.ForwardLemmas.{law_forward_tables_dispatch_alike}
use Rattle.closure_laws.proofs.laws.law_forward_tables_dispatch_alike.Goals as goal

pub returns : goal.returns
returns c = law_forward_tables_dispatch_alike
