use Rattle.closure_model.proofs.OrderLemmas.{law_orders_exclude_cycles}
use Rattle.closure_model.proofs.order_laws.law_orders_exclude_cycles.Goals as goal

pub returns : goal.returns
returns c = law_orders_exclude_cycles
