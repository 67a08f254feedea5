-- The order of the points of a table, or a cycle: of the points not yet placed, the lowest is placed next that has no negative ordinary
-- edge to a point not placed; if no more can be placed and points are left, a cycle is followed. A negative cycle of ordinary edges shows
-- that a network is not controllable (Morris and Muscettola 2005).
use Rattle.std.specs.Prelude.{◌≡◌, ◌≢◌, ◌==◌, ◌&&◌, ◌+◌, ◌-◌, ◌<◌, ◌≤◌, not, ℕ, zero, suc, pos, int_lt, Bool, true, false, List, [], ◌∷◌, ◌++◌, length, drop}
use Rattle.std.specs.Prelude.{Option, is_none, if◌then◌else◌}
use Rattle.std.specs.List.{All, AllPairs, Contains, find, list_any, position_or_len, slice_index_or}
use Rattle.std.specs.Option.{option_map_or, option_to_list}
use Rattle.net_model.specs.declared.ids.PointId.{PointId}
use Rattle.closure_model.specs.Keys.{ordinary_key, all_points}
use Rattle.closure_model.specs.Tables.{Graph, weight_of}

-- a table has an ordinary edge of negative weight from one point to another
abbrev pub goes : Graph → (from to : PointId) → Bool
goes graph from to = option_map_or (λ weight. int_lt weight (pos 0)) (weight_of graph (ordinary_key from to)) false

-- a point stands in a list
abbrev pub contains_point : List PointId → PointId → Bool
contains_point points point = list_any (λ other. other.0 == point.0) points

-- a negative ordinary edge goes to a point that is not placed
abbrev pub goes_on : Graph → List PointId → (from to : PointId) → Bool
goes_on graph placed from to = goes graph from to && not (contains_point placed to)

-- the lowest point not placed to which a negative ordinary edge goes
abbrev pub next_on : Graph → List PointId → PointId → Option PointId
next_on graph placed from = find (goes_on graph placed from) (all_points graph.shape)

-- a point is free: it is not placed, and its negative ordinary edges all go to placed points
abbrev pub is_free : Graph → List PointId → PointId → Bool
is_free graph placed point = not (contains_point placed point) && is_none (next_on graph placed point)

-- the points that are placed after one step more: the lowest free point comes next
abbrev pub place_next : Graph → List PointId → List PointId
place_next graph placed = placed ++ option_to_list (find (is_free graph placed) (all_points graph.shape))

-- the points that are placed after so many steps
abbrev pub placed_after : Graph → ℕ → List PointId
placed_after graph zero = []
placed_after graph (suc steps) = place_next graph (placed_after graph steps)

-- the points that are placed, in their order
abbrev pub placed_points : Graph → List PointId
placed_points graph = placed_after graph graph.shape.points

-- the lowest point that is not placed
abbrev pub lowest_unplaced : Graph → Option PointId
lowest_unplaced graph = find (λ point. not (contains_point (placed_points graph) point)) (all_points graph.shape)

-- the walk that goes on from a point, after the points before it, until a point comes twice: from that point on
abbrev pub cycle_after : Graph → List PointId → (steps : ℕ) → (before : List PointId) → PointId → List PointId
cycle_after graph placed zero before point = []
cycle_after graph placed (suc steps) before point =
    if contains_point before point then drop (position_or_len (λ other. other.0 == point.0) before) before
    else option_map_or (cycle_after graph placed steps (before ++ point ∷ [])) (next_on graph placed point) []

-- the cycle that is reached first from a point, if the walk goes on always to the lowest point not placed to which a negative ordinary edge
-- goes
abbrev pub cycle_from : Graph → PointId → List PointId
cycle_from graph first = cycle_after graph (placed_points graph) (graph.shape.points + 1) [] first

-- an order: it has each point once, and each negative ordinary edge goes from a later point to an earlier one
pub record IsOrder (graph : Graph) (order : List PointId) : Type 0 where
  pub whole : (point : PointId) → point.0 < graph.shape.points → Contains order point
  pub once : AllPairs (λ p q. p.0 ≢ q.0) order
  pub points : All (λ point. point.0 < graph.shape.points) order
  pub descends : (i j : ℕ) (d : PointId) → i ≤ j → j < length order → goes graph (slice_index_or order i d) (slice_index_or order j d) ≡ false

-- a cycle: a negative ordinary edge goes from each point to the next, and from the last to the first
pub record IsCycle (graph : Graph) (cycle : List PointId) : Type 0 where
  pub some : 0 < length cycle
  pub points : All (λ point. point.0 < graph.shape.points) cycle
  pub steps : (i : ℕ) (d : PointId) → i + 1 < length cycle → goes graph (slice_index_or cycle i d) (slice_index_or cycle (i + 1) d) ≡ true
  pub closes : (d : PointId) → goes graph (slice_index_or cycle (length cycle - 1) d) (slice_index_or cycle 0 d) ≡ true
