use Rattle.closure_model.proofs.LawProofs.{base_stands_law}
use Rattle.closure_model.proofs.laws.law_base_stands.Goals as goal

pub returns : goal.returns
returns c = base_stands_law
