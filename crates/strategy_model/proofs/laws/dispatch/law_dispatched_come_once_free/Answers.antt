use Rattle.strategy_model.proofs.SeenLemmas.{law_dispatched_come_once_free}
use Rattle.strategy_model.proofs.laws.dispatch.law_dispatched_come_once_free.Goals as goal

pub returns : goal.returns
returns c = law_dispatched_come_once_free
