-- The play of a strategy in a situation, with instantaneous reaction: a completion is seen at its own moment. It is for proofs: the law
-- `law_no_delay_is_instant` says that these are the plays of a network of which the delay is 0.
use Rattle.std.specs.Prelude.{ℕ, ◌+◌, ◌==◌, ◌&&◌, ◌||◌, Bool, false, List, [], ◌∷◌, ◌++◌, filter, Option, Some, None, if◌then◌else◌}
use Rattle.std.specs.Cmp.Lexicographic.{pointwise}
use Rattle.net_model.specs.Network.{Plan}
use Rattle.net_model.specs.declared.ids.PointId.{PointId}
use Rattle.net_model.specs.declared.part.Link.{Link}
use Rattle.strategy_model.specs.Plays.{PartialSchedule, same_point, moment_so_far, at_moment, points_of, may_act, schedule_made}
use Rattle.strategy_model.specs.declared.tree.Tree.{Tree, Leaf, Node', Row_of-Case, end_of-Case, more_of-Case}

-- a link completes at t if its activation has a moment a with a + duration = t
abbrev pub completes : PartialSchedule → ℕ → Link → ℕ → Bool
completes so_far t link duration = elim (moment_so_far so_far link.from) [ Some a ↦ (a + duration) == t | None ↦ false ]

-- a link that ends in the point completes at t
abbrev pub is_completed : PartialSchedule → ℕ → List Link → List ℕ → PointId → Bool
is_completed so_far t (link ∷ links) (duration ∷ durations) point =
    (same_point link.to point && completes so_far t link duration) || is_completed so_far t links durations point
is_completed so_far t links durations point = false

-- the points that are completed at t, in order of number
abbrev pub completed : Plan → List ℕ → PartialSchedule → ℕ → List PointId
completed net situation so_far t = filter (is_completed so_far t net.links situation) (points_of net)

abbrev mutual
  -- the play of what is left of a strategy, from moment t on
  pub instant_from : Tree → Plan → List ℕ → PartialSchedule → ℕ → Option (List ℕ)
  instant_from Leaf net situation so_far t = schedule_made net so_far
  instant_from (Node' shape cases) net situation so_far t =
      instant_cases cases net situation so_far t (completed net situation so_far t)

  -- The first case that has just these points as seen is taken. There is no play if none has, or if an act is not allowed.
  pub instant_cases : {m : _} → Row_of-Case m → Plan → List ℕ → PartialSchedule → ℕ → List PointId → Option (List ℕ)
  instant_cases end_of-Case net situation so_far t points = None
  instant_cases (more_of-Case seen acts next others) net situation so_far t points =
      if pointwise same_point seen points
      then (if may_act net so_far acts
      then instant_from next net situation (so_far ++ at_moment t seen ++ at_moment t acts) (t + 1)
      else None)
      else instant_cases others net situation so_far t points

-- the play of a strategy in a situation: the schedule that is made, or none
abbrev pub instant_play : Tree → Plan → List ℕ → Option (List ℕ)
instant_play tree net situation = instant_from tree net situation [] 0
