-- The play of a strategy in a situation. A strategy is a tree of decisions: what is done at a moment depends on the
-- completions that were shown up to it, those shown at the moment itself included, and on nothing else (Morris, Muscettola and
-- Vidal 2001, as repaired by Hunsberger 2009; this project's own choice is that those of the moment itself are seen, and that a
-- completion is shown the delay after it happened).
use Rattle.std.specs.Prelude.{◌≡◌, ℕ, ◌+◌, ◌-◌, ◌==◌, ◌&&◌, ◌||◌, not, Bool, true, false, List, [], ◌∷◌, ◌++◌, length, map, filter, Option, Some, None, is_none}
use Rattle.std.specs.Prelude.{nat_lt, if◌then◌else◌}
use Rattle.std.specs.Option.{option_map}
use Rattle.std.specs.List.{list_any, range_with_len}
use Rattle.std.specs.Cmp.Lexicographic.{pointwise}
use Rattle.net_model.specs.Network.{Plan, IsPlan, activation}
use Rattle.net_model.specs.declared.ids.PointId.{PointId}
use Rattle.net_model.specs.declared.part.Link.{Link}
use Rattle.strategy_model.specs.declared.tree.Case.{Case}
use Rattle.strategy_model.specs.declared.tree.Tree.{Tree, Leaf, Node', Row_of-Case, end_of-Case, more_of-Case}

-- a partial schedule: the points that have come, with their moments, in the order in which they came
abbrev pub PartialSchedule : Type 0
PartialSchedule = List (PointId × ℕ)

abbrev pub same_point : PointId → PointId → Bool
same_point p q = p.0 == q.0

-- the moment that a point has so far
abbrev pub moment_so_far : PartialSchedule → PointId → Option ℕ
moment_so_far [] point = None
moment_so_far (entry ∷ entries) point = if same_point entry.0 point then Some entry.1 else moment_so_far entries point

-- these points have moment t
abbrev pub at_moment : ℕ → List PointId → PartialSchedule
at_moment t points = map (λ point. (point, t)) points

-- a link's completion is shown at t if its activation has a moment a with a + duration + delay = t
abbrev pub shows : Plan → PartialSchedule → ℕ → Link → ℕ → Bool
shows net so_far t link duration = elim (moment_so_far so_far link.from) [ Some a ↦ (a + duration + net.delay) == t | None ↦ false ]

-- a link that ends in the point is shown at t
abbrev pub is_shown : Plan → PartialSchedule → ℕ → List Link → List ℕ → PointId → Bool
is_shown net so_far t (link ∷ links) (duration ∷ durations) point =
    (same_point link.to point && shows net so_far t link duration) || is_shown net so_far t links durations point
is_shown net so_far t links durations point = false

-- the points of a network, in order of number
abbrev pub points_of : Plan → List PointId
points_of net = map (λ k. record { 0 = k }) (range_with_len 0 (length net.points))

-- the points that are shown at t, in order of number
abbrev pub shown : Plan → List ℕ → PartialSchedule → ℕ → List PointId
shown net situation so_far t = filter (is_shown net so_far t net.links situation) (points_of net)

-- these points may be executed now: they are executable, and none was executed before or stands twice
abbrev pub may_act : Plan → PartialSchedule → List PointId → Bool
may_act net so_far [] = true
may_act net so_far (act ∷ acts) =
    nat_lt act.0 (length net.points) && is_none (activation net act) && is_none (moment_so_far so_far act) && not
    (list_any (same_point act) acts) && may_act net so_far acts

-- all of these are there
abbrev pub all_some : List (Option ℕ) → Option (List ℕ)
all_some [] = Some []
all_some (None ∷ others) = None
all_some (Some x ∷ others) = option_map (λ xs. x ∷ xs) (all_some others)

-- the schedule that was made, if each point has a moment
abbrev pub schedule_made : Plan → PartialSchedule → Option (List ℕ)
schedule_made net so_far = all_some (map (moment_so_far so_far) (points_of net))

abbrev mutual
  -- the play of what is left of a strategy, from moment t on
  pub play_from : Tree → Plan → List ℕ → PartialSchedule → ℕ → Option (List ℕ)
  play_from Leaf net situation so_far t = schedule_made net so_far
  play_from (Node' shape cases) net situation so_far t =
      play_cases cases net situation so_far t (shown net situation so_far t)

  -- The first case that has just these points as seen is taken; they happened the delay before. There is no play if none has, or if an act
  -- is not allowed.
  pub play_cases : {m : _} → Row_of-Case m → Plan → List ℕ → PartialSchedule → ℕ → List PointId → Option (List ℕ)
  play_cases end_of-Case net situation so_far t points = None
  play_cases (more_of-Case seen acts next others) net situation so_far t points =
      if pointwise same_point seen points
      then (if may_act net so_far acts
      then play_from next net situation (so_far ++ at_moment (t - net.delay) seen ++ at_moment t acts) (t + 1)
      else None)
      else play_cases others net situation so_far t points

-- the first case that has just these points as seen
abbrev pub case_for : List Case → List PointId → Option Case
case_for [] points = None
case_for (case ∷ cases) points = if pointwise same_point case.seen points then Some case else case_for cases points

-- the play of a strategy in a situation: the schedule that is made, or none
abbrev pub play : Tree → Plan → List ℕ → Option (List ℕ)
play tree net situation = play_from tree net situation [] 0

-- A sound network in which reaction is instantaneous: a completion is seen at its own moment. The laws about what derives, dispatches or
-- executes are about such networks; every shown form is one.
pub record IsInstant (net : Plan) : Type 0 where
  pub sound : IsPlan net
  pub no_delay : net.delay ≡ 0
