use Rattle.strong_plan.proofs.JudgeLemmas.{law_accepted_excludes}
use Rattle.strong_plan.proofs.laws.law_accepted_excludes.Goals as goal

pub returns : goal.returns
returns c = law_accepted_excludes
