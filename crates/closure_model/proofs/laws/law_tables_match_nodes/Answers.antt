use Rattle.closure_model.proofs.LawProofs.{law_tables_match_nodes}
use Rattle.closure_model.proofs.laws.law_tables_match_nodes.Goals as goal

pub returns : goal.returns
returns c = law_tables_match_nodes
