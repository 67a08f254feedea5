use Rattle.closure_model.proofs.TableLemmas.{listed_edge, edge_listed}
use Rattle.closure_model.proofs.table_laws.law_edges_are_listed.Goals as goal

pub returns : goal.returns
returns c = λ graph edge. (listed_edge graph edge, edge_listed graph edge)
