use Rattle.strategy_model.proofs.SeenLemmas.{law_dispatched_see_alone}
use Rattle.strategy_model.proofs.laws.dispatch.law_dispatched_see_alone.Goals as goal

pub returns : goal.returns
returns c = law_dispatched_see_alone
