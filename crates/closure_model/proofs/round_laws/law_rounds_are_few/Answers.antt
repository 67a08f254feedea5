-- A chain of negative edges without a cycle has no more points than there are.
use Rattle.closure_model.proofs.FewRounds.{law_rounds_are_few as proof}
use Rattle.closure_model.proofs.round_laws.law_rounds_are_few.Goals as goal

pub returns : goal.returns
returns c = proof
