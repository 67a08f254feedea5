use Rattle.strategy_model.proofs.ExactLemmas.{law_exact_derivations_are_true}
use Rattle.strategy_model.proofs.laws.law_exact_derivations_are_true.Goals as goal

pub returns : goal.returns
returns c = law_exact_derivations_are_true
