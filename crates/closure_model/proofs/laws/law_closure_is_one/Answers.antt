use Rattle.closure_model.proofs.LawProofs.{law_closure_is_one}
use Rattle.closure_model.proofs.laws.law_closure_is_one.Goals as goal

pub returns : goal.returns
returns c = law_closure_is_one
