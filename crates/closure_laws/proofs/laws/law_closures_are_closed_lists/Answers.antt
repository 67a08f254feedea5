use Rattle.closure_laws.proofs.ClosureLemmas.{law_closures_are_closed_lists}
use Rattle.closure_laws.proofs.laws.law_closures_are_closed_lists.Goals as goal

pub returns : goal.returns
returns c = law_closures_are_closed_lists
