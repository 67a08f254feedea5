use Rattle.closure_laws.proofs.OrderLemmas.{law_cycles_of_tables_exclude}
use Rattle.closure_laws.proofs.laws.law_cycles_of_tables_exclude.Goals as goal

pub returns : goal.returns
returns c = law_cycles_of_tables_exclude
