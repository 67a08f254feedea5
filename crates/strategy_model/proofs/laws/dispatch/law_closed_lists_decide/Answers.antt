use Rattle.strategy_model.proofs.CompletenessLemmas.{law_closed_lists_decide}
use Rattle.strategy_model.proofs.laws.dispatch.law_closed_lists_decide.Goals as goal

pub returns : goal.returns
returns c = law_closed_lists_decide
