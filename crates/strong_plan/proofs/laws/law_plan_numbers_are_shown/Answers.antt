use Rattle.strong_plan.proofs.NumberLemmas.{law_plan_numbers_are_shown}
use Rattle.strong_plan.proofs.laws.law_plan_numbers_are_shown.Goals as goal

pub returns : goal.returns
returns c = law_plan_numbers_are_shown
