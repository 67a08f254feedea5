use Rattle.shared_table_laws.proofs.Histories.{law_settled_histories_give_the_closure}
use Rattle.shared_table_laws.proofs.laws.law_settled_histories_give_the_closure.Goals as goal

pub returns : goal.returns
returns c = law_settled_histories_give_the_closure
