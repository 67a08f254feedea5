-- A row needs only the rows of points from which a negative ordinary edge goes to its target.
use Rattle.closure_model.proofs.FewRounds.{law_unstale_rows_stay as proof}
use Rattle.closure_model.proofs.round_laws.law_unstale_rows_stay.Goals as goal

pub returns : goal.returns
returns c = proof
