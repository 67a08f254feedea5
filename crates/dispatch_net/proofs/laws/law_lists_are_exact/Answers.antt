use Rattle.dispatch_net.proofs.ExactLemmas.{law_lists_are_exact}
use Rattle.dispatch_net.proofs.laws.law_lists_are_exact.Goals as goal

pub returns : goal.returns
returns c = law_lists_are_exact
