use Rattle.stnu_run.proofs.StrongVerdictLemmas.{strong_means_controllable}
use Rattle.stnu_run.proofs.across_laws.law_strong_means_controllable.Goals as goal

pub returns : goal.returns
returns c = strong_means_controllable c.keeps_its_promise.ensures c.law_strong_is_controllable.ensures c.law_strong_is_read_exactly.ensures c.law_check_is_read_exactly.ensures
