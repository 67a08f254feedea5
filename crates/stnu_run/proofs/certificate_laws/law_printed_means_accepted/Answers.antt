use Rattle.stnu_run.proofs.AcceptedLemmas.{one_plan}
use Rattle.stnu_run.proofs.PrintedLemmas.{prints_accepted}
use Rattle.stnu_run.proofs.certificate_laws.law_printed_means_accepted.Goals as goal

pub returns-clause-one : goal.returns-clause-one
returns-clause-one c = one_plan

pub returns-clause-defined : goal.returns-clause-defined
returns-clause-defined c = prints_accepted c.law_check_is_read_exactly.ensures c.law_strong_is_read_exactly.ensures c.law_judge_is_read_exactly.ensures
