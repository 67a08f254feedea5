use Rattle.stnu_run.proofs.RelaxedDeadlineLemmas.{relaxed_deadlines_are_no_greater}
use Rattle.stnu_run.proofs.relaxed_deadline_laws.law_relaxed_deadlines_are_no_greater.Goals as goal

pub returns : goal.returns
returns c = relaxed_deadlines_are_no_greater c.keeps_its_promise.ensures c.law_deadline_is_read_exactly.ensures c.law_relaxed_are_controllable.ensures
