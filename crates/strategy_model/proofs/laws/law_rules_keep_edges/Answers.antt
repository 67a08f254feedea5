use Rattle.strategy_model.proofs.LoopLemmas.{law_rules_keep_edges}
use Rattle.strategy_model.proofs.laws.law_rules_keep_edges.Goals as goal

pub returns : goal.returns
returns c = law_rules_keep_edges
