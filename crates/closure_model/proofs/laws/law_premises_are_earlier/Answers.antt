use Rattle.closure_model.proofs.LawProofs.{law_premises_are_earlier}
use Rattle.closure_model.proofs.laws.law_premises_are_earlier.Goals as goal

pub returns : goal.returns
returns c = law_premises_are_earlier
