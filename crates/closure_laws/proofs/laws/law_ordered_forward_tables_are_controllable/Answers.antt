use Rattle.closure_laws.proofs.ForwardLemmas.{law_ordered_forward_tables_are_controllable}
use Rattle.closure_laws.proofs.laws.law_ordered_forward_tables_are_controllable.Goals as goal

pub returns : goal.returns
returns c = law_ordered_forward_tables_are_controllable
