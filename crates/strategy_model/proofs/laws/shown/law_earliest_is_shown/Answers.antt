use Rattle.strategy_model.proofs.ShownFormLemmas.{law_earliest_is_shown}
use Rattle.strategy_model.proofs.laws.shown.law_earliest_is_shown.Goals as goal

pub returns : goal.returns
returns c = law_earliest_is_shown
