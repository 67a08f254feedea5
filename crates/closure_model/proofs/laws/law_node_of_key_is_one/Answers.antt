use Rattle.closure_model.proofs.LawProofs.{law_node_of_key_is_one}
use Rattle.closure_model.proofs.laws.law_node_of_key_is_one.Goals as goal

pub returns : goal.returns
returns c = law_node_of_key_is_one
