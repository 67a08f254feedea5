use Rattle.closure_model.proofs.LawProofs.{law_rules_keep_derivable}
use Rattle.closure_model.proofs.laws.law_rules_keep_derivable.Goals as goal

pub returns : goal.returns
returns c = law_rules_keep_derivable
