-- What the table has after a round improved in it, or was there before.
use Rattle.closure_model.proofs.DeltaLemmas.{law_unimproved_were_there as proof}
use Rattle.closure_model.proofs.round_laws.law_unimproved_were_there.Goals as goal

pub returns : goal.returns
returns c = proof
