use Rattle.strategy_model.proofs.InsertLemmas.{law_closed_lists_have_orders}
use Rattle.strategy_model.proofs.laws.dispatch.law_closed_lists_have_orders.Goals as goal

pub returns : goal.returns
returns c = law_closed_lists_have_orders
