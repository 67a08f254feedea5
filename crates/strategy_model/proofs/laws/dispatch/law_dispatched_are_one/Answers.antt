use Rattle.strategy_model.proofs.SeenLemmas.{law_dispatched_are_one}
use Rattle.strategy_model.proofs.laws.dispatch.law_dispatched_are_one.Goals as goal

pub returns : goal.returns
returns c = law_dispatched_are_one
