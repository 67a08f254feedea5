use Rattle.strategy_model.proofs.WalkLemmas.{loops_exclude}
use Rattle.strategy_model.proofs.BoundLemmas.{edges_of_bounds_hold}
use Rattle.strategy_model.proofs.laws.law_loops_of_bounds_exclude_schedules.Goals as goal

pub returns : goal.returns
returns c =
    λ net edges loop made schedule satisfies. loops_exclude schedule edges loop (edges_of_bounds_hold net schedule satisfies edges made)
