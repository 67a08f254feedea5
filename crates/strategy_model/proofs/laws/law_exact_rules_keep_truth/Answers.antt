use Rattle.strategy_model.proofs.ExactLemmas.{law_exact_rules_keep_truth}
use Rattle.strategy_model.proofs.laws.law_exact_rules_keep_truth.Goals as goal

pub returns : goal.returns
returns c = law_exact_rules_keep_truth
