use Rattle.execution_model.proofs.LawLemmas.{law_done_where_none_is_open}
use Rattle.execution_model.proofs.laws.law_done_where_none_is_open.Goals as goal

pub returns : goal.returns
returns c = law_done_where_none_is_open
