-- What is derivable in the row is saturated when all is settled.
use Rattle.closure_model.proofs.RowLaw.{law_rows_are_least as proof}
use Rattle.closure_model.proofs.round_laws.law_rows_are_least.Goals as goal

pub returns : goal.returns
returns c = proof
