use Rattle.relaxation_laws.proofs.ShownStrategyLemmas.{law_trees_are_dynamic_as_shown}
use Rattle.relaxation_laws.proofs.laws.law_trees_are_dynamic_as_shown.Goals as goal

pub returns : goal.returns
returns c = law_trees_are_dynamic_as_shown
