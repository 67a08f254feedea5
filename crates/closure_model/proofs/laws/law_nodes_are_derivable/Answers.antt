use Rattle.closure_model.proofs.LawProofs.{law_nodes_are_derivable}
use Rattle.closure_model.proofs.laws.law_nodes_are_derivable.Goals as goal

pub returns : goal.returns
returns c = law_nodes_are_derivable
