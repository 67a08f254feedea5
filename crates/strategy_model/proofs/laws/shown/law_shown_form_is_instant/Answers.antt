use Rattle.strategy_model.proofs.ShownFormLemmas.{law_shown_form_is_instant}
use Rattle.strategy_model.proofs.laws.shown.law_shown_form_is_instant.Goals as goal

pub returns : goal.returns
returns c = law_shown_form_is_instant
