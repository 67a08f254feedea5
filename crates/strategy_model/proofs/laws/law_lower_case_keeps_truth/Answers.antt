use Rattle.strategy_model.proofs.RuleLemmas.{law_lower_case_keeps_truth}
use Rattle.strategy_model.proofs.laws.law_lower_case_keeps_truth.Goals as goal

pub returns : goal.returns
returns c = law_lower_case_keeps_truth
