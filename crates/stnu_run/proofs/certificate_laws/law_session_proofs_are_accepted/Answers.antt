use Rattle.stnu_run.proofs.SessionProofLemmas.{session_proofs_are_accepted}
use Rattle.stnu_run.proofs.certificate_laws.law_session_proofs_are_accepted.Goals as goal

pub returns : goal.returns
returns c = session_proofs_are_accepted c.keeps_its_promise.ensures c.law_session_is_read_exactly.ensures c.law_judge_is_read_exactly.ensures
