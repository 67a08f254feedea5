use Rattle.strategy_model.proofs.RuleLemmas.{law_removal_keeps_truth}
use Rattle.strategy_model.proofs.laws.law_removal_keeps_truth.Goals as goal

pub returns : goal.returns
returns c = law_removal_keeps_truth
