use Rattle.closure_model.proofs.LawProofs.{law_under_is_earlier}
use Rattle.closure_model.proofs.laws.law_under_is_earlier.Goals as goal

pub returns : goal.returns
returns c = law_under_is_earlier
