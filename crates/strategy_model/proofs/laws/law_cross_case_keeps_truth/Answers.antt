use Rattle.strategy_model.proofs.RuleLemmas.{law_cross_case_keeps_truth}
use Rattle.strategy_model.proofs.laws.law_cross_case_keeps_truth.Goals as goal

pub returns : goal.returns
returns c = law_cross_case_keeps_truth
