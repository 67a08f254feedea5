-- Each key of the closure has its least derivable weight.
use Rattle.closure_model.proofs.RoundsEndings.{law_cycles_are_in_closures as proof}
use Rattle.closure_model.proofs.laws.law_cycles_are_in_closures.Goals as goal

pub returns : goal.returns
returns c = proof
