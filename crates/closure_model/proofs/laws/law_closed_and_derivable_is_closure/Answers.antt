use Rattle.closure_model.proofs.LawProofs.{law_closed_and_derivable_is_closure}
use Rattle.closure_model.proofs.laws.law_closed_and_derivable_is_closure.Goals as goal

pub returns : goal.returns
returns c = law_closed_and_derivable_is_closure
