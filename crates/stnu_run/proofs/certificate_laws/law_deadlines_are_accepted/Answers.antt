use Rattle.stnu_run.proofs.DeadlineProofLemmas.{deadlines_are_accepted}
use Rattle.stnu_run.proofs.certificate_laws.law_deadlines_are_accepted.Goals as goal

pub returns : goal.returns
returns c = deadlines_are_accepted c.keeps_its_promise.ensures c.law_deadline_is_read_exactly.ensures c.law_judge_is_read_exactly.ensures
