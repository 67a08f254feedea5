use Rattle.closure_laws.proofs.ClosureLemmas.{law_derivable_are_true}
use Rattle.closure_laws.proofs.laws.law_derivable_are_true.Goals as goal

pub returns : goal.returns
returns c = law_derivable_are_true
