use Rattle.shared_table_laws.proofs.NodeSteps.{law_round_histories_are_histories}
use Rattle.shared_table_laws.proofs.laws.law_round_histories_are_histories.Goals as goal

pub returns : goal.returns
returns c = law_round_histories_are_histories
