use Rattle.net_model.proofs.RuleLemmas.{law_exact_may_be_stated}
use Rattle.net_model.proofs.laws.law_exact_may_be_stated.Goals as goal

pub returns : goal.returns
returns c = law_exact_may_be_stated
