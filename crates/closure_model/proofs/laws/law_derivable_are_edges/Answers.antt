use Rattle.closure_model.proofs.LawProofs.{law_derivable_are_edges}
use Rattle.closure_model.proofs.laws.law_derivable_are_edges.Goals as goal

pub returns : goal.returns
returns c = law_derivable_are_edges
