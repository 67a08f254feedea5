-- No rule leads beyond M.
use Rattle.closure_model.proofs.RowRun.{law_rows_stay_within as proof}
use Rattle.closure_model.proofs.round_laws.law_rows_stay_within.Goals as goal

pub returns : goal.returns
returns c = proof
