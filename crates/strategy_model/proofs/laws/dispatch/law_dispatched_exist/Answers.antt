use Rattle.strategy_model.proofs.LowerLemmas.{law_dispatched_exist}
use Rattle.strategy_model.proofs.laws.dispatch.law_dispatched_exist.Goals as goal

pub returns : goal.returns
returns c = law_dispatched_exist
