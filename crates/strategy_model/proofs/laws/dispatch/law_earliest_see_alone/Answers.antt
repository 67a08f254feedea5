use Rattle.strategy_model.proofs.AloneLemmas.{law_earliest_see_alone}
use Rattle.strategy_model.proofs.laws.dispatch.law_earliest_see_alone.Goals as goal

pub returns : goal.returns
returns c = law_earliest_see_alone
