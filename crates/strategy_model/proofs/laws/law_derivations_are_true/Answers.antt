use Rattle.strategy_model.proofs.RuleLemmas.{law_derivations_are_true}
use Rattle.strategy_model.proofs.laws.law_derivations_are_true.Goals as goal

pub returns : goal.returns
returns c = law_derivations_are_true
