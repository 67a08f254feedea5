-- Each node of a round follows from earlier ones.
use Rattle.closure_model.proofs.RoundsLaw.{law_rounds_keep_standing as proof}
use Rattle.closure_model.proofs.round_laws.law_rounds_keep_standing.Goals as goal

pub returns : goal.returns
returns c = proof
