use Rattle.strong_plan.proofs.NumberLemmas.{law_shown_forms_have_shown_numbers}
use Rattle.strong_plan.proofs.laws.law_shown_forms_have_shown_numbers.Goals as goal

pub returns : goal.returns
returns c = law_shown_forms_have_shown_numbers
