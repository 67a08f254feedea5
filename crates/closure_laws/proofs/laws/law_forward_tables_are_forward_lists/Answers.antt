use Rattle.closure_laws.proofs.ForwardLemmas.{law_forward_tables_are_forward_lists}
use Rattle.closure_laws.proofs.laws.law_forward_tables_are_forward_lists.Goals as goal

pub returns : goal.returns
returns c = law_forward_tables_are_forward_lists
