use Rattle.closure_model.proofs.ListedEdges.{law_rows_are_listed}
use Rattle.closure_model.proofs.table_laws.law_rows_are_listed.Goals as goal

pub returns : goal.returns
returns c = law_rows_are_listed
