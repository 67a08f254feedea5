use Rattle.strategy_model.proofs.DispatchedLemmas.{law_dispatched_satisfy}
use Rattle.strategy_model.proofs.laws.dispatch.law_dispatched_satisfy.Goals as goal

pub returns : goal.returns
returns c = law_dispatched_satisfy
