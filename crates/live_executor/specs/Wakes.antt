-- Which points each point wakes, as lists, and how they are gathered from the lower bounds and waits.
use Rattle.std.specs.Prelude.{◌≡◌, ℕ, ℤ, ◌<◌, ◌==◌, ◌++◌, ◌∷◌, [], Bool, false, List, length, fold, Option, Some, slice_get, slice_set}
use Rattle.std.specs.List.{All, count_by, slice_index_or}
use Rattle.std.specs.Option.{option_map, option_map_or}
use Rattle.net_model.specs.declared.ids.PointId.{PointId}
use Rattle.net_model.specs.declared.ids.LinkId.{LinkId}
use Rattle.net_model.specs.declared.part.Link.{Link}
use Rattle.dispatch_net.specs.declared.dispatch.Conditions.{Conditions}
use Rattle.dispatch_net.specs.Dispatchable.{conditions_at}
use Rattle.execution_model.specs.Execution.{Setting}
use Rattle.live_executor.specs.WokenPoints.{times, count_fixed_by}

-- the list of a point
abbrev pub list_at : List (List PointId) → PointId → List PointId
list_at lists point = slice_index_or lists point.0 []

-- with one point more at the end of a list
abbrev pub added_to_list : List (List PointId) → (place point : PointId) → List (List PointId)
added_to_list lists place point = slice_set lists place.0 (list_at lists place ++ point ∷ [])

-- for each point those points whose lower bounds and waits it fixes, each as often as it does, and those with a wait for the link that ends
-- in it
pub record WakeLists : Type 0 where
  pub fixes : List (List PointId)
  pub ends : List (List PointId)

-- a point added, for each item, to the list of the point that the item names
abbrev pub gathered : {X : Type 0} → (X → Option PointId) → PointId → List (List PointId) → List X → List (List PointId)
gathered place point lists items = fold (λ now item. option_map_or (λ at. added_to_list now at point) (place item) now) lists items

-- a lower bound names its point, a wait one end of its link
abbrev pub bound_place : PointId × ℤ → Option PointId
bound_place bound = Some bound.0

abbrev pub wait_place : (Link → PointId) → List Link → LinkId × ℤ → Option PointId
wait_place end links wait = option_map end (slice_get links wait.0.0)

-- with one point more, by its lower bounds and waits
abbrev pub with_point_wakes : List Link → WakeLists → PointId → Conditions → WakeLists
with_point_wakes links wakes point conditions = record {
  fixes = gathered (wait_place (λ link. link.from) links) point (gathered bound_place point wakes.fixes conditions.lower_bounds) conditions.waits;
  ends = gathered (wait_place (λ link. link.to) links) point wakes.ends conditions.waits;
}

-- a wait is for a link that ends in a point
abbrev pub is_wait_to : List Link → PointId → LinkId × ℤ → Bool
is_wait_to links point wait = option_map_or (λ (link : Link). link.to.0 == point.0) (slice_get links wait.0.0) false

-- which points each of so many points wakes: each point as often as it fixes one of its lower bounds or waits, and each point as often as it has a wait for the
-- link that ends in it
pub record AreWakesOf (setting : Setting) (points : ℕ) (wakes : WakeLists) : Type 0 where
  pub fixes_count : length wakes.fixes ≡ points
  pub ends_count : length wakes.ends ≡ points
  pub fixed : (point : PointId) → point.0 < points → (other : PointId)
      → times (list_at wakes.fixes point) other ≡ count_fixed_by setting point (conditions_at setting.dispatch other)
  pub ended : (point : PointId) → point.0 < points → (other : PointId)
      → times (list_at wakes.ends point) other ≡ count_by (is_wait_to setting.links point) (conditions_at setting.dispatch other).waits
  pub fixes_inside : (point : PointId) → All (λ (other : PointId). other.0 < points) (list_at wakes.fixes point)
  pub ends_inside : (point : PointId) → All (λ (other : PointId). other.0 < points) (list_at wakes.ends point)
