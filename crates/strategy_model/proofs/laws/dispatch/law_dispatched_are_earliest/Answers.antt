use Rattle.strategy_model.proofs.AheadLemmas.{law_dispatched_are_earliest}
use Rattle.strategy_model.proofs.laws.dispatch.law_dispatched_are_earliest.Goals as goal

pub returns : goal.returns
returns c = law_dispatched_are_earliest
