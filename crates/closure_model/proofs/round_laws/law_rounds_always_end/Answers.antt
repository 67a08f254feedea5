-- Each round in which something improves leaves less to lower.
use Rattle.closure_model.proofs.RoundsEndings.{law_rounds_always_end as proof}
use Rattle.closure_model.proofs.round_laws.law_rounds_always_end.Goals as goal

pub returns : goal.returns
returns c = proof
