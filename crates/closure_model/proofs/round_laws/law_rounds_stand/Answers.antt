-- Round by round.
use Rattle.closure_model.proofs.RoundsLaw.{law_rounds_stand as proof}
use Rattle.closure_model.proofs.round_laws.law_rounds_stand.Goals as goal

pub returns : goal.returns
returns c = proof
