-- The deadlines of a network: the numbers for which it can be controlled with one bound more (this project's own choice).
use Rattle.std.specs.Prelude.{◌≡◌, ℤ, pos, neg_ℤ, ◌≤ℤ◌, ◌<ℤ◌, length}
use Rattle.net_model.specs.Limits.{most_bounds, most_number}
use Rattle.net_model.specs.Network.{Plan}
use Rattle.strategy_model.specs.Control.{IsControllable}
use Rattle.deadline_search.specs.Goals.{with_goal}
use Rattle.deadline_search.specs.declared.goal.Goal.{Goal}

-- the least number that a plan may have, and the greatest
abbrev pub lowest : ℤ
lowest = neg_ℤ (pos most_number)

abbrev pub highest : ℤ
highest = pos most_number

-- a number that a plan may have, for which the network with the bound of a goal is controllable
pub record IsDeadline (net : Plan) (goal : Goal) (most : ℤ) : Type 0 where
  pub from_lowest : lowest ≤ℤ most
  pub to_highest : most ≤ℤ highest
  pub kept : IsControllable (with_goal net goal most)

-- a deadline with none below it; every number from it on that a plan may have is one
pub record IsTightest (net : Plan) (goal : Goal) (most : ℤ) : Type 0 where
  pub deadline : IsDeadline net goal most
  pub later : (other : ℤ) → most ≤ℤ other → other ≤ℤ highest → IsDeadline net goal other
  pub least : (other : ℤ) → other <ℤ most → ¬ IsDeadline net goal other

-- a controllable network that has no capacity for one bound more
pub record IsFull (net : Plan) : Type 0 where
  pub controllable : IsControllable net
  pub bounds : length net.bounds ≡ most_bounds
