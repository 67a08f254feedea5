-- The first of the least is the only one that is it.
use Rattle.closure_model.proofs.FirstLeast.{law_first_is_next as proof}
use Rattle.closure_model.proofs.round_laws.law_first_is_next.Goals as goal

pub returns : goal.returns
returns c = proof
