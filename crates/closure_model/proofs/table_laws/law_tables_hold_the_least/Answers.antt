use Rattle.closure_model.proofs.TableLemmas.{table_of-least, least-in_table_of}
use Rattle.closure_model.proofs.table_laws.law_tables_hold_the_least.Goals as goal

pub returns : goal.returns
returns c = λ shape given edge. (table_of-least shape given edge, least-in_table_of shape given edge)
