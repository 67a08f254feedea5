use Rattle.closure_laws.proofs.ClosureLemmas.{law_derivable_cycles_exclude}
use Rattle.closure_laws.proofs.laws.law_derivable_cycles_exclude.Goals as goal

pub returns : goal.returns
returns c = law_derivable_cycles_exclude
