-- Rounds end, and not in a cycle.
use Rattle.closure_model.proofs.RoundsEndings.{law_closures_are_of_rounds as proof}
use Rattle.closure_model.proofs.round_laws.law_closures_are_of_rounds.Goals as goal

pub returns : goal.returns
returns c = proof
