use Rattle.strong_plan.proofs.StrongLemmas.{law_reduced_edges_suffice}
use Rattle.strong_plan.proofs.laws.law_reduced_edges_suffice.Goals as goal

pub returns : goal.returns
returns c = law_reduced_edges_suffice
