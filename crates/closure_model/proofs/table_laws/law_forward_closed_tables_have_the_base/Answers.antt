use Rattle.closure_model.proofs.BaseLemmas.{forward_closed_has_base}
use Rattle.closure_model.proofs.table_laws.law_forward_closed_tables_have_the_base.Goals as goal

pub returns : goal.returns
returns c = forward_closed_has_base
