use Rattle.strategy_model.proofs.ShownTruthLemmas.{law_shown_refutations_exclude}
use Rattle.strategy_model.proofs.laws.shown.law_shown_refutations_exclude.Goals as goal

pub returns : goal.returns
returns c = law_shown_refutations_exclude
