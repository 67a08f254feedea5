use Rattle.execution_model.proofs.GraphLemmas.{law_forward_tables_are_graphs}
use Rattle.execution_model.proofs.laws.law_forward_tables_are_graphs.Goals as goal

pub returns : goal.returns
returns c = law_forward_tables_are_graphs
