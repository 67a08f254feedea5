-- By the places.
use Rattle.closure_model.proofs.OrderStays.{law_orders_stay as proof}
use Rattle.closure_model.proofs.order_laws.law_orders_stay.Goals as goal

pub returns : goal.returns
returns c = proof
