use Rattle.closure_model.proofs.OrderLemmas.{law_cycles_are_met}
use Rattle.closure_model.proofs.order_laws.law_cycles_are_met.Goals as goal

pub returns : goal.returns
returns c = law_cycles_are_met
