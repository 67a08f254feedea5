use Rattle.relaxation_laws.proofs.RelaxationLemmas.{law_relaxed_are_no_later}
use Rattle.relaxation_laws.proofs.laws.law_relaxed_are_no_later.Goals as goal

pub returns : goal.returns
returns c = law_relaxed_are_no_later
