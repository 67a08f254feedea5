use Rattle.strategy_model.proofs.CompareLemmas.{law_completion_follows_activation}
use Rattle.strategy_model.proofs.laws.law_completion_follows_activation.Goals as goal

pub returns : goal.returns
returns c = law_completion_follows_activation
