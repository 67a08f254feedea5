use Rattle.input_texts.proofs.PlanLemmas.{declares_network, refuses_plan}
use Rattle.input_texts.proofs.laws.law_plan_texts_are_as_the_format_says.Goals as goal

pub returns : goal.returns
returns c = λ past. record { networks = declares_network past; parts = refuses_plan past }
