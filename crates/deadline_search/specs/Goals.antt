-- A goal: one bound more for a network, with its name, which is the first one that is free.
use Rattle.std.specs.Prelude.{◌≡◌, ℕ, ℤ, ◌<◌, ◌==◌, List, [], ◌∷◌, ◌++◌, None, IsSome, codes, if◌then◌else◌}
use Rattle.std.specs.Fmt.{decimal}
use Rattle.net_model.specs.Network.{Plan, bound_named}
use Rattle.net_model.specs.declared.part.Bound.{Bound}
use Rattle.deadline_search.specs.declared.goal.Goal.{Goal}

-- the bound of a goal at a number: `to - from <= most`
abbrev pub goal_bound : Goal → ℤ → Bound
goal_bound goal most = record { name = goal.name; from = goal.from; to = goal.to; most = most }

-- the network with the bound of a goal at a number as its last
abbrev pub with_goal : Plan → Goal → ℤ → Plan
with_goal net goal most = record net { bounds = net.bounds ++ goal_bound goal most ∷ [] }

-- the names of goals, from 0: `goal`, `goal.1`, `goal.2` and so on
abbrev pub goal_name : ℕ → List ℕ
goal_name place = if place == 0 then codes "goal" else codes "goal." ++ decimal place

-- the first of these names that no bound of the network has
pub record IsGoalName (net : Plan) (name : List ℕ) : Type 0 where
  pub place : ℕ
  pub is : name ≡ goal_name place
  pub free : bound_named net name ≡ None
  pub first : (earlier : ℕ) → earlier < place → IsSome (bound_named net (goal_name earlier))
