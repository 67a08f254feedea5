use Rattle.strategy_model.proofs.InstantLemmas.{law_no_delay_is_instant}
use Rattle.strategy_model.proofs.laws.shown.law_no_delay_is_instant.Goals as goal

pub returns : goal.returns
returns c = law_no_delay_is_instant
