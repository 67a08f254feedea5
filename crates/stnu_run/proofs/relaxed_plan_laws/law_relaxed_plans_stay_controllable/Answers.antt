use Rattle.stnu_run.proofs.RelaxedPlanLemmas.{relaxed_plans_stay_controllable}
use Rattle.stnu_run.proofs.relaxed_plan_laws.law_relaxed_plans_stay_controllable.Goals as goal

pub returns : goal.returns
returns c = relaxed_plans_stay_controllable c.keeps_its_promise.ensures c.law_check_is_read_exactly.ensures c.law_relaxed_are_controllable.ensures
