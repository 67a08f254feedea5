use Rattle.strategy_model.proofs.WalkLemmas.{loops_exclude}
use Rattle.strategy_model.proofs.BoundLemmas.{edges_of_bounds_hold, controllable_has_schedule}
use Rattle.strategy_model.proofs.laws.law_loops_of_bounds_exclude_strategies.Goals as goal

pub returns : goal.returns
returns c =
    λ net edges instant loop made controllable.
    let found = controllable_has_schedule net instant.sound controllable in
    loops_exclude found.0 edges loop (edges_of_bounds_hold net found.0 found.1 edges made)
