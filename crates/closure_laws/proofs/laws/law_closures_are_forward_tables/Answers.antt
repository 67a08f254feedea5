use Rattle.closure_laws.proofs.ForwardLemmas.{law_closures_are_forward_tables}
use Rattle.closure_laws.proofs.laws.law_closures_are_forward_tables.Goals as goal

pub returns : goal.returns
returns c = law_closures_are_forward_tables
