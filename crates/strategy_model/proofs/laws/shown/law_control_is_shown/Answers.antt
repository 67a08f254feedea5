use Rattle.strategy_model.proofs.ShownFormLemmas.{law_control_is_shown}
use Rattle.strategy_model.proofs.laws.shown.law_control_is_shown.Goals as goal

pub returns : goal.returns
returns c = law_control_is_shown
