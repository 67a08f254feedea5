use Rattle.strategy_model.proofs.ClosedLemmas.{law_closed_lists_are_forward_closed}
use Rattle.strategy_model.proofs.laws.dispatch.law_closed_lists_are_forward_closed.Goals as goal

pub returns : goal.returns
returns c = law_closed_lists_are_forward_closed
