use Rattle.strategy_model.proofs.RuleLemmas.{law_rules_keep_truth}
use Rattle.strategy_model.proofs.laws.law_rules_keep_truth.Goals as goal

pub returns : goal.returns
returns c = law_rules_keep_truth
