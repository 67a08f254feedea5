use Rattle.relaxation_laws.proofs.RelaxationLemmas.{law_lower_delays_relax}
use Rattle.relaxation_laws.proofs.laws.law_lower_delays_relax.Goals as goal

pub returns : goal.returns
returns c = law_lower_delays_relax
