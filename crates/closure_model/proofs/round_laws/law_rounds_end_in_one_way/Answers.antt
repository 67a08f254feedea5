-- Each step of the definition excludes the others.
use Rattle.closure_model.proofs.RoundsLaw.{law_rounds_end_in_one_way as proof}
use Rattle.closure_model.proofs.round_laws.law_rounds_end_in_one_way.Goals as goal

pub returns : goal.returns
returns c = proof
