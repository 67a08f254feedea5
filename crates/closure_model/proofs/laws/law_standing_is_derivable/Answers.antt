use Rattle.closure_model.proofs.LawProofs.{law_standing_is_derivable}
use Rattle.closure_model.proofs.laws.law_standing_is_derivable.Goals as goal

pub returns : goal.returns
returns c = law_standing_is_derivable
