use Rattle.relaxation_laws.proofs.ShownStrategyLemmas.{law_dynamic_as_shown_are_trees}
use Rattle.relaxation_laws.proofs.laws.law_dynamic_as_shown_are_trees.Goals as goal

pub returns : goal.returns
returns c = law_dynamic_as_shown_are_trees
