use Rattle.input_texts.proofs.PlanInputLemmas.{plans_have_the_delay}
use Rattle.input_texts.proofs.laws.law_plans_have_the_requested_delay.Goals as goal

pub returns : goal.returns
returns c = plans_have_the_delay
