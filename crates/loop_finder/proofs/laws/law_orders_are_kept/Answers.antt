use Rattle.loop_finder.proofs.KeptLemmas.{law_orders_are_kept}
use Rattle.loop_finder.proofs.laws.law_orders_are_kept.Goals as goal

pub returns : goal.returns
returns c = law_orders_are_kept
