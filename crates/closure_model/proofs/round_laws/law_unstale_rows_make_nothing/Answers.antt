-- A pruned row without seeds.
use Rattle.closure_model.proofs.DeltaLemmas.{law_unstale_rows_make_nothing as proof}
use Rattle.closure_model.proofs.round_laws.law_unstale_rows_make_nothing.Goals as goal

pub returns : goal.returns
returns c = proof
