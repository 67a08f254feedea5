use Rattle.dispatch_net.proofs.StayLemmas.{law_slim_stays_slim}
use Rattle.dispatch_net.proofs.laws.law_slim_stays_slim.Goals as goal

pub returns : goal.returns
returns c = law_slim_stays_slim
