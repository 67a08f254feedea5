-- Which negative ordinary edges go to points that are not placed, and which points are free: not placed, and without such an edge.
use Rattle.std.specs.Prelude.{◌≡◌, ◌==◌, ◌<◌, ◌≤◌, ◌+◌, ◌-◌, ◌&&◌, ℕ, not, true, List, length, filter, map, Option, Some, None, slice_index_or, slice_set}
use Rattle.std.specs.Prelude.{if◌then◌else◌}
use Rattle.std.specs.List.{range_with_len}
use Rattle.net_model.specs.declared.ids.PointId.{PointId}
use Rattle.net_model.specs.Moments.{Moments}
use Rattle.closure_model.specs.Keys.{all_points}
use Rattle.closure_model.specs.Orders.{goes, goes_on, contains_point}
use Rattle.closure_model.specs.Tables.{Graph}
use Rattle.labelled_graph.specs.declared.entry.Entry.{Entry}
use Rattle.loop_finder.specs.NegativeSuccessors.{point, is_negative_entry}

-- how many negative ordinary edges go from one point to another: one or none
abbrev pub edge_count : Graph → (from to : PointId) → ℕ
edge_count graph from to = if goes graph from to then 1 else 0

-- how many go from a point to those below a number
abbrev pub count_below : Graph → (n : ℕ) → (from : PointId) → ℕ
count_below graph n from = length (filter (goes graph from) (map point (range_with_len 0 n)))

-- how many go from a point to points that are not placed
abbrev pub open_count : Graph → (placed : List PointId) → (from : PointId) → ℕ
open_count graph placed from = length (filter (goes_on graph placed from) (all_points graph.shape))

-- for each point how many go from it to those below a number
pub record AreCountsTo (graph : Graph) (n : ℕ) (counts : List ℕ) : Type 0 where
  pub count : length counts ≡ graph.shape.points
  pub each : (k : ℕ) → k < length counts → slice_index_or counts k 0 ≡ count_below graph n (point k)

-- the counts of points, and of the same points with those edges more that go to a point
pub record DifferByEdges (graph : Graph) (to : PointId) (fewer more : List ℕ) : Type 0 where
  pub count : length fewer ≡ length more
  pub each : (k : ℕ) → k < length more → slice_index_or fewer k 0 + edge_count graph (point k) to ≡ slice_index_or more k 0

-- a point from which an edge goes to this one has an open edge
abbrev pub HaveOpenEdges : Graph → (to : PointId) → (left : List ℕ) → Type 0
HaveOpenEdges graph to left = (k : ℕ) → k < length left → goes graph (point k) to ≡ true → 1 ≤ slice_index_or left k 0

-- those points have become due from which an edge goes to this one, and no edge is left
pub record AreFreed (graph : Graph) (to : PointId) (left : List ℕ) (before after : Moments) : Type 0 where
  pub count : length after ≡ length before
  pub each : (k : ℕ) → k < length before → slice_index_or after k None
      ≡ (if goes graph (point k) to && (slice_index_or left k 0 == 0) then Some 0 else slice_index_or before k None)

-- counts with the edge of an entry, if that is a negative ordinary one
abbrev pub counted : List ℕ → Entry → List ℕ
counted counts entry = if is_negative_entry entry then slice_set counts entry.from.0 (slice_index_or counts entry.from.0 0 + 1) else counts

-- counts without it
abbrev pub closed : List ℕ → Entry → List ℕ
closed left entry = if is_negative_entry entry then slice_set left entry.from.0 (slice_index_or left entry.from.0 0 - 1) else left

-- what is due once it is taken away, if it was the last open edge of its point
abbrev pub freed : Moments → (left : List ℕ) → Entry → Moments
freed due left entry = if is_negative_entry entry && (slice_index_or left entry.from.0 0 == 0) then slice_set due entry.from.0 (Some 0) else due

-- an entry begins in one of the points; if it is of a negative ordinary edge, that point has an open edge
pub record CanClose (entry : Entry) (left : List ℕ) (due : Moments) : Type 0 where
  pub open_point : entry.from.0 < length left
  pub due_point : entry.from.0 < length due
  pub some : is_negative_entry entry ≡ true → 1 ≤ slice_index_or left entry.from.0 0

-- from when on a point is due: from 0 if it is free
abbrev pub due_of : (placed : List PointId) → (left : List ℕ) → ℕ → Option ℕ
due_of placed left k = if not (contains_point placed (point k)) && (slice_index_or left k 0 == 0) then Some 0 else None

-- the free points are due
pub record AreDue (placed : List PointId) (left : List ℕ) (due : Moments) : Type 0 where
  pub count : length due ≡ length left
  pub each : (k : ℕ) → k < length due → slice_index_or due k None ≡ due_of placed left k

-- points that are placed, none of which has an open edge, how many open edges each point has, and which are due
pub record IsPlacement (graph : Graph) (placed : List PointId) (left : List ℕ) (due : Moments) : Type 0 where
  pub count : length left ≡ graph.shape.points
  pub counts : (k : ℕ) → k < length left → slice_index_or left k 0 ≡ open_count graph placed (point k)
  pub placed_closed : (k : ℕ) → k < length left → contains_point placed (point k) ≡ true → slice_index_or left k 0 ≡ 0
  pub are_due : AreDue placed left due
