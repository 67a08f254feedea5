use Rattle.strategy_model.proofs.ShownTruthLemmas.{law_truth_is_shown}
use Rattle.strategy_model.proofs.laws.shown.law_truth_is_shown.Goals as goal

pub returns : goal.returns
returns c = law_truth_is_shown
