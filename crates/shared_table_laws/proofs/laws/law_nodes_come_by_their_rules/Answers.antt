use Rattle.shared_table_laws.proofs.NodeRules.{law_nodes_come_by_their_rules}
use Rattle.shared_table_laws.proofs.laws.law_nodes_come_by_their_rules.Goals as goal

pub returns : goal.returns
returns c = law_nodes_come_by_their_rules
