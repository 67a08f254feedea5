use Rattle.closure_model.proofs.OrderLemmas.{placed_are_an_order}
use Rattle.closure_model.proofs.order_laws.law_placed_points_are_an_order.Goals as goal

pub returns : goal.returns
returns c = placed_are_an_order
