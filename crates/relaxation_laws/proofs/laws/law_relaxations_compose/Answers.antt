use Rattle.relaxation_laws.proofs.RelaxationLemmas.{law_relaxations_compose}
use Rattle.relaxation_laws.proofs.laws.law_relaxations_compose.Goals as goal

pub returns : goal.returns
returns c = law_relaxations_compose
