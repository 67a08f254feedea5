-- A round closes each row against the table before it.
use Rattle.closure_model.proofs.DeltaLemmas.{law_rows_are_saturated_after_a_round as proof}
use Rattle.closure_model.proofs.round_laws.law_rows_are_saturated_after_a_round.Goals as goal

pub returns : goal.returns
returns c = proof
