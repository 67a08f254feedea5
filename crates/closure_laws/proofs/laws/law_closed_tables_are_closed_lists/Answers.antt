use Rattle.closure_laws.proofs.ClosureLemmas.{law_closed_tables_are_closed_lists}
use Rattle.closure_laws.proofs.laws.law_closed_tables_are_closed_lists.Goals as goal

pub returns : goal.returns
returns c = law_closed_tables_are_closed_lists
