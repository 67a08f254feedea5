use Rattle.shared_table_laws.proofs.RoundHistories.{law_rounds_are_histories}
use Rattle.shared_table_laws.proofs.laws.law_rounds_are_histories.Goals as goal

pub returns : goal.returns
returns c = law_rounds_are_histories
