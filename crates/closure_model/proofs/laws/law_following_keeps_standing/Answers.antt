use Rattle.closure_model.proofs.LawProofs.{law_following_keeps_standing}
use Rattle.closure_model.proofs.laws.law_following_keeps_standing.Goals as goal

pub returns : goal.returns
returns c = law_following_keeps_standing
