use Rattle.strategy_model.proofs.RuleLemmas.{law_no_case_keeps_truth}
use Rattle.strategy_model.proofs.laws.law_no_case_keeps_truth.Goals as goal

pub returns : goal.returns
returns c = law_no_case_keeps_truth
