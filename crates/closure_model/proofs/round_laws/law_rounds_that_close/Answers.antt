-- A table whose rows improve nothing is closed.
use Rattle.closure_model.proofs.RoundsLaw.{law_rounds_that_close as proof}
use Rattle.closure_model.proofs.round_laws.law_rounds_that_close.Goals as goal

pub returns : goal.returns
returns c = proof
