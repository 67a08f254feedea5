use Rattle.relaxation_laws.proofs.RelaxationLemmas.{law_same_strategies_control_relaxed}
use Rattle.relaxation_laws.proofs.laws.law_same_strategies_control_relaxed.Goals as goal

pub returns : goal.returns
returns c = law_same_strategies_control_relaxed
