use Rattle.closure_laws.proofs.OrderLemmas.{law_ordered_closures_are_controllable}
use Rattle.closure_laws.proofs.laws.law_ordered_closures_are_controllable.Goals as goal

pub returns : goal.returns
returns c = law_ordered_closures_are_controllable
