use Rattle.stnu_run.proofs.SessionVerdictLemmas.{verdicts_agree_with_check}
use Rattle.stnu_run.proofs.across_laws.law_verdicts_agree_with_check.Goals as goal

pub returns : goal.returns
returns c = verdicts_agree_with_check c.keeps_its_promise.ensures c.law_session_is_read_exactly.ensures c.law_check_is_read_exactly.ensures
