use Rattle.closure_model.proofs.LawProofs.{law_newest_has_the_weight}
use Rattle.closure_model.proofs.laws.law_newest_has_the_weight.Goals as goal

pub returns : goal.returns
returns c = law_newest_has_the_weight
