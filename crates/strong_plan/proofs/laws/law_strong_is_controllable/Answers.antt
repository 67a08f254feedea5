use Rattle.strong_plan.proofs.DelayLemmas.{law_strong_is_controllable}
use Rattle.strong_plan.proofs.laws.law_strong_is_controllable.Goals as goal

pub returns : goal.returns
returns c = law_strong_is_controllable c.law_dynamic_strategies_are_trees.ensures
