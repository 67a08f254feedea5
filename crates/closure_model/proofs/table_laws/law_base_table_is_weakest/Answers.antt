use Rattle.closure_model.proofs.BaseLemmas.{law_base_table_is_weakest}
use Rattle.closure_model.proofs.table_laws.law_base_table_is_weakest.Goals as goal

pub returns : goal.returns
returns c = law_base_table_is_weakest
