use Rattle.closure_laws.proofs.ForwardLemmas.{law_forward_closed_tables_are_lists}
use Rattle.closure_laws.proofs.laws.law_forward_closed_tables_are_lists.Goals as goal

pub returns : goal.returns
returns c = law_forward_closed_tables_are_lists
