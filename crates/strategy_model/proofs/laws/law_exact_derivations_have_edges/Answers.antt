use Rattle.strategy_model.proofs.ExactLemmas.{law_exact_derivations_have_edges}
use Rattle.strategy_model.proofs.laws.law_exact_derivations_have_edges.Goals as goal

pub returns : goal.returns
returns c = law_exact_derivations_have_edges
