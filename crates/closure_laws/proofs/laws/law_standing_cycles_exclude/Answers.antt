use Rattle.closure_laws.proofs.OrderLemmas.{law_standing_cycles_exclude}
use Rattle.closure_laws.proofs.laws.law_standing_cycles_exclude.Goals as goal

pub returns : goal.returns
returns c = law_standing_cycles_exclude
