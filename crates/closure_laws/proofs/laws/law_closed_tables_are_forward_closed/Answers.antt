use Rattle.closure_laws.proofs.ForwardLemmas.{law_closed_tables_are_forward_closed}
use Rattle.closure_laws.proofs.laws.law_closed_tables_are_forward_closed.Goals as goal

pub returns : goal.returns
returns c = law_closed_tables_are_forward_closed
