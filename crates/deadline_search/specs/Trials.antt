-- The search for the tightest deadline: what it begins with, and to what it comes.
use Rattle.std.specs.Prelude.{◌≡◌, ◌⊎◌, ◌<◌, ℤ, pos, ◌+ℤ◌, ◌-ℤ◌, ◌≤ℤ◌, length, Option, Some, None}
use Rattle.net_model.specs.Limits.{most_bounds}
use Rattle.net_model.specs.Network.{Plan, IsPoint, bound_named}
use Rattle.deadline_search.specs.Deadlines.{IsDeadline, highest, lowest}
use Rattle.deadline_search.specs.declared.goal.Goal.{Goal}

-- the bound of a goal can be declared in a network: its points are points of that, its name is free, and there is capacity
pub record IsGoalFor (net : Plan) (goal : Goal) : Type 0 where
  pub from_point : IsPoint net goal.from
  pub to_point : IsPoint net goal.to
  pub free : bound_named net goal.name ≡ None
  pub spare_capacity : length net.bounds < most_bounds

-- a deadline below which the next number is none, or none may be
pub record IsLastDeadline (net : Plan) (goal : Goal) (most : ℤ) : Type 0 where
  pub deadline : IsDeadline net goal most
  pub last : (most ≡ lowest) ⊎ (¬ IsDeadline net goal (most -ℤ pos 1))

-- the end of the search: at the last deadline, or at none
abbrev pub IsFoundDeadline : Plan → Goal → Option ℤ → Type 0
IsFoundDeadline net goal (Some most) = IsLastDeadline net goal most
IsFoundDeadline net goal None = ¬ IsDeadline net goal highest

-- a number is half way from one to another, or half below that
abbrev pub IsHalfWay : (low high half : ℤ) → Type 0
IsHalfWay low high half = ((half +ℤ half) ≤ℤ (low +ℤ high)) × ((low +ℤ high) ≤ℤ ((half +ℤ half) +ℤ pos 1))

-- the greatest step of a search: from it on every number is in reach
abbrev pub widest : ℤ
widest = pos 2000000000
