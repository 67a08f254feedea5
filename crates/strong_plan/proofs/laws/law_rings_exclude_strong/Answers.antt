use Rattle.strong_plan.proofs.ExcludeLemmas.{law_rings_exclude_strong}
use Rattle.strong_plan.proofs.laws.law_rings_exclude_strong.Goals as goal

pub returns : goal.returns
returns c = law_rings_exclude_strong
