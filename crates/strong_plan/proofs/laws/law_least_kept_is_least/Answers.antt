use Rattle.strong_plan.proofs.ExcludeLemmas.{law_least_kept_is_least}
use Rattle.strong_plan.proofs.laws.law_least_kept_is_least.Goals as goal

pub returns : goal.returns
returns c = law_least_kept_is_least
