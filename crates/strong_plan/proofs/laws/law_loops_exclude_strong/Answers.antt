use Rattle.strong_plan.proofs.ExcludeLemmas.{law_loops_exclude_strong}
use Rattle.strong_plan.proofs.laws.law_loops_exclude_strong.Goals as goal

pub returns : goal.returns
returns c = law_loops_exclude_strong
