use Rattle.shared_table_laws.proofs.Histories.{law_histories_are_derivable}
use Rattle.shared_table_laws.proofs.laws.law_histories_are_derivable.Goals as goal

pub returns : goal.returns
returns c = law_histories_are_derivable
