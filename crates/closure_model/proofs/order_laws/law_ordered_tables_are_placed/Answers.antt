-- An order excludes the cycle that would be reached.
use Rattle.closure_model.proofs.OrderStays.{law_ordered_tables_are_placed as proof}
use Rattle.closure_model.proofs.order_laws.law_ordered_tables_are_placed.Goals as goal

pub returns : goal.returns
returns c = proof
