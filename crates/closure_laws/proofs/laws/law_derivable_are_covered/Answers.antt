use Rattle.closure_laws.proofs.CoverLemmas.{law_derivable_are_covered}
use Rattle.closure_laws.proofs.laws.law_derivable_are_covered.Goals as goal

pub returns : goal.returns
returns c = law_derivable_are_covered
