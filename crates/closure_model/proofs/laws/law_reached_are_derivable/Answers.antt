use Rattle.closure_model.proofs.LawProofs.{law_reached_are_derivable}
use Rattle.closure_model.proofs.laws.law_reached_are_derivable.Goals as goal

pub returns : goal.returns
returns c = law_reached_are_derivable
