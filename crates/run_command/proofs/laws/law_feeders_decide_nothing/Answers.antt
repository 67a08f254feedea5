use Rattle.run_command.proofs.RunWordLemmas.{feeders_ask_same}
use Rattle.run_command.proofs.laws.law_feeders_decide_nothing.Goals as goal

pub returns : goal.returns
returns c = feeders_ask_same
