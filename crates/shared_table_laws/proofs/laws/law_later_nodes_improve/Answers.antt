use Rattle.shared_table_laws.proofs.LaterNodes.{law_later_nodes_improve}
use Rattle.shared_table_laws.proofs.laws.law_later_nodes_improve.Goals as goal

pub returns : goal.returns
returns c = law_later_nodes_improve
