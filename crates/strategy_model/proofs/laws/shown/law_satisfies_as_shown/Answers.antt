use Rattle.strategy_model.proofs.ShownFormLemmas.{law_satisfies_as_shown}
use Rattle.strategy_model.proofs.laws.shown.law_satisfies_as_shown.Goals as goal

pub returns : goal.returns
returns c = law_satisfies_as_shown
